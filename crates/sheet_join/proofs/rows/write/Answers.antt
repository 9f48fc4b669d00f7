-- The sizes are written, then the rows of both orders are put. Assumes nothing.
use Prim.Native.Nat.{ℕ}
use native.Mathlib.Omega.{arith}
use mathlib.Core.Path.{◌≡◌, ap, ap₂, ◌∙◌}
use mathlib.Core.List.{List}
use lib.ListN.{length, length-set}
use Rattle.hgn.specs.Order.{size_words, order_rows}
use Rattle.sheet_check.specs.Puts.{put_rows}
use Rattle.sheet_check.proofs.Puts.{length_puts}
use Rattle.sheet_join.specs.declared.joining.Joining.{Joining}
use Rattle.sheet_join.proofs.Orders.{sheet_holds, rows_laid}
use Rattle.sheet_join.proofs.Writing.{sized, length_sized, raised, room_holds, first_fits, second_fits, join_written}
use Rattle.sheet_join.proofs.rows.write.Goals as goal

pub bounds-room-1 : goal.bounds-room-1
bounds-room-1 c = simp length-set (omega arith)

pub bounds-room-2 : goal.bounds-room-2
bounds-room-2 c = simp length-set (omega arith)

pub put_first-requires : goal.put_first-requires
put_first-requires c =
    let first : List ℕ = c.args.first.now in
    let second : List ℕ = c.args.second.now in
    let room : List ℕ = c.args.room.now in
    let joining : Joining = c.args.joining in
    let begins : List ℕ = sized joining.atoms joining.goals joining.rows room in
    let begins-long : length begins ≡ length room = length_sized joining.atoms joining.goals joining.rows room in
    let rows = c.layout.ensures.1 ∙ c.of-sizes.ensures.rows in (
      room_holds first second room joining c.requires begins begins-long,
      sheet_holds c.requires.pass.shop first c.requires.pass.first_passes c.layout.result c.layout.ensures.0 rows,
      omega (arith, rows, first_fits first second room joining c.requires),
    )

pub put_second-requires : goal.put_second-requires
put_second-requires c =
    let first : List ℕ = c.args.first.now in
    let second : List ℕ = c.args.second.now in
    let room : List ℕ = c.args.room.now in
    let joining : Joining = c.args.joining in
    let begins : List ℕ = sized joining.atoms joining.goals joining.rows room in
    let begins-long : length begins ≡ length room = length_sized joining.atoms joining.goals joining.rows room in
    let first-put : c.put_first.new.room ≡ put_rows size_words joining.rows 0 (order_rows first) begins = rw (rows_laid c.requires.pass.shop first c.requires.pass.first_passes c.layout.result c.layout.ensures.0
    (c.layout.ensures.1 ∙ c.of-sizes.ensures.rows)) at c.put_first.ensures in
    let first-long : length c.put_first.new.room ≡ length room = ap length first-put ∙ length_puts size_words joining.rows 0 (order_rows first) begins ∙ begins-long in
    second_fits first second room joining c.requires c.put_first.new.room first-long c.of-sizes.result.rows c.of-sizes.ensures.rows

pub shape_of-room : goal.shape_of-room
shape_of-room c =
    let first : List ℕ = c.args.first.now in
    let room : List ℕ = c.args.room.now in
    let joining : Joining = c.args.joining in
    let begins : List ℕ = sized joining.atoms joining.goals joining.rows room in
    let begins-long : length begins ≡ length room = length_sized joining.atoms joining.goals joining.rows room in
    let first-put : c.put_first.new.room ≡ put_rows size_words joining.rows 0 (order_rows first) begins = rw (rows_laid c.requires.pass.shop first c.requires.pass.first_passes c.layout.result c.layout.ensures.0
    (c.layout.ensures.1 ∙ c.of-sizes.ensures.rows)) at c.put_first.ensures in
    let first-long : length c.put_first.new.room ≡ length room = ap length first-put ∙ length_puts size_words joining.rows 0 (order_rows first) begins ∙ begins-long in
    ap length c.put_second.ensures ∙ length_puts _ _ _ _ _ ∙ first-long

pub returns : goal.returns
returns c =
    let first : List ℕ = c.args.first.now in
    let second : List ℕ = c.args.second.now in
    let room : List ℕ = c.args.room.now in
    let joining : Joining = c.args.joining in
    let begins : List ℕ = sized joining.atoms joining.goals joining.rows room in
    let first-put : c.put_first.new.room ≡ put_rows size_words joining.rows 0 (order_rows first) begins = rw (rows_laid c.requires.pass.shop first c.requires.pass.first_passes c.layout.result c.layout.ensures.0
    (c.layout.ensures.1 ∙ c.of-sizes.ensures.rows)) at c.put_first.ensures in
    c.put_second.ensures
    ∙ ap₂ (λ (at : ℕ) (l : List ℕ). put_rows size_words joining.rows at (raised first second room joining c.requires) l) c.of-sizes.ensures.rows first-put
    ∙ join_written first second room joining c.requires
