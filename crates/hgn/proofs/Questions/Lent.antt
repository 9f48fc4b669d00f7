-- A call with lent room answers by the first no of its questions, and a refusal leaves the room as it was. Assumes nothing.
use mathlib.Core.Path.{◌≡◌, refl, sym, ap, ◌∙◌, subst}
use mathlib.Core.Logic.{◌≢◌}
use mathlib.Core.List.{List}
use Rattle.hgn.specs.Questions.{Failure, without_atom, Question, Verdict, passed, refused, first_no}
use Rattle.hgn.specs.State.{no_atom}
use Rattle.hgn.specs.Lent.{Lent, unwritten, asking}
use Rattle.hgn.specs.Demands.{LentAnswers}
use Rattle.hgn.proofs.Questions.FirstNo.{Numbers, Tells, tells_passed, tells_unnamed, answers_first}

module _ {Room : Type 0} (qs : List Question) (room : Room) (done : Lent Room) where
  pub asking_refused : (f : Failure) → first_no qs ≡ refused f → asking qs room done ≡ unwritten room f.refusal
  unfolding asking
  asking_refused f e = rw (e, asking)

  pub asking_passed : first_no qs ≡ passed → asking qs room done ≡ done
  unfolding asking
  asking_passed e = rw (e, asking)

  -- Its questions have no number 0 and name no atom, and `done` answers 0.
  pub lent_answers : Numbers (λ k a. k ≢ 0) qs → Numbers (λ k a. a ≡ no_atom) qs → done.refusal.number ≡ 0
      → (c : Lent Room) → c ≡ asking qs room done → LentAnswers qs room c
  unfolding unwritten
  lent_answers h u z c e = go (first_no qs) refl
    where
      first : (v : Verdict) → first_no qs ≡ v → Tells (without_atom c.refusal) v → (c.refusal.number ≢ 0 → c.room ≡ room) → LentAnswers qs room c
      first v f t l = answers_first qs (without_atom c.refusal) (c.room ≡ room) h (subst (Tells (without_atom c.refusal)) (sym f) t) l

      go : (v : Verdict) → first_no qs ≡ v → LentAnswers qs room c
      go passed f =
          let n : c.refusal.number ≡ 0 = ap (λ (d : Lent Room). d.refusal.number) (e ∙ asking_passed f) ∙ z in
          first passed f (tells_passed n) (λ k. absurd (k n))
      go (refused q) f =
          let is = e ∙ asking_refused q f in
          first (refused q) f
          (subst (λ (d : Lent Room). Tells (without_atom d.refusal) (refused q)) (sym is) (tells_unnamed qs u q f))
          (λ k. ap (λ (d : Lent Room). d.room) is)
