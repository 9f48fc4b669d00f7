-- The call's promise, carried into the text. Assumes nothing.
use Prim.Native.Nat.{ℕ}
use mathlib.Core.Path.{◌≡◌, sym, ap, ap₂, ◌∙◌}
use mathlib.Core.List.{List, ◌++◌, append-nil}
use lib.ListN.{take}
use Rattle.hgn.specs.Replay.{Replayed, refusal}
use Rattle.sheet_files.specs.Texts.{heading, heading_of}
use Rattle.replay_main.specs.Printed.{lines, text_of, RefusalIsOneLine}

-- The heading and the lines of a call's answer are its text.
pub text_is : {c e : Replayed} (t1 t2 plan : List ℕ) → c ≡ e
    → t1 ≡ heading_of c → plan ≡ take c.answer.count c.room → t2 ≡ t1 ++ lines plan → t2 ≡ text_of e
unfolding text_of
text_is t1 t2 plan called first front second = second ∙ ap₂ {C = List ℕ} (λ (a b : List ℕ). a ++ lines b) first front ∙ ap text_of called

-- Where no action was taken, the heading alone is the text.
pub heading_is_text : {c e : Replayed} {t : List ℕ} → c ≡ e → t ≡ heading_of c → c.answer.count ≡ 0 → t ≡ text_of e
unfolding text_of lines
heading_is_text {c} called first none =
    first
    ∙ sym (append-nil (heading_of c))
    ∙ ap {B = List ℕ} (λ (n : ℕ). heading_of c ++ lines (take n c.room)) (sym none)
    ∙ ap text_of called

-- A refusal has no plan, so its text is the heading alone.
pub refusal_is_one_line : RefusalIsOneLine
unfolding text_of lines heading refusal
refusal_is_one_line room f = append-nil _
