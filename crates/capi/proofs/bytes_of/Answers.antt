-- The facts that the loop leaves. Assumes nothing.
use native.Mathlib.Omega.{arith}
use mathlib.Core.Path.{◌≡◌, refl}
use lib.ListN.{length}
use borrow.Author.Rules.{rules}
use Rattle.hgn.specs.State.{most_atoms}
use Rattle.capi.proofs.Bytes.{byte_more, bytes_whole}
use Rattle.capi.proofs.bytes_of.Goals as goal

pub loop-i-init : goal.loop-i-init
loop-i-init c = (omega arith, refl)

pub loop-i-preserved : goal.loop-i-preserved
loop-i-preserved c = let l = c.loop-i in
    let whole : length c.args.atoms.now ≡ most_atoms = search rules in
    let room : length c.args.bytes.now ≡ most_atoms = search rules in
    (omega arith, rw c.from.ensures (byte_more c.args.atoms.now c.args.bytes.now l.i l.invariant.1 (omega (arith, whole)) (omega (arith, room))))

pub returns : goal.returns
returns c = let l = c.loop-i in
    let whole : length c.args.atoms.now ≡ most_atoms = search rules in
    let room : length c.args.bytes.now ≡ most_atoms = search rules in
    let end : l.i ≡ most_atoms = omega arith in
    bytes_whole c.args.atoms.now c.args.bytes.now most_atoms (rw end at l.invariant.1) whole room
