-- The first no of a list of questions: one question at a time, of two lists, at a place, by its number and atom, and as a proposition.
-- Assumes nothing.
use Prim.Native.Nat.{ℕ, ◌+◌}
use native.Mathlib.Omega.{arith}
use mathlib.Core.Path.{◌≡◌, refl, sym, ap, ◌∙◌, subst}
use mathlib.Core.Bool.{Bool, true, false, cond}
use mathlib.Core.Logic.{◌≢◌}
use mathlib.Core.List.{List, [], ◌∷◌, ◌++◌, map}
use Rattle.hgn.specs.Questions.{Refusal, Failure, without_atom, Question, ◌askedAt◌, failed_at, all_at}
use Rattle.hgn.specs.Questions.{Verdict, passed, refused, first_no, answered, FirstNo, here, later, AllYes, none, more}
use Rattle.hgn.specs.State.{no_atom}
use Rattle.hgn.specs.Demands.{AnswersFirst}

pub refused≢passed : {q : Failure} → refused q ≡ passed → ⊥
refused≢passed e = let z : ◌≡◌ {A = ℕ} 0 1 = cc in omega arith

-- One question at a time.

module _ (q : Question) (qs : List Question) where
  pub first_yes : q.answer ≡ true → first_no (q ∷ qs) ≡ first_no qs
  unfolding first_no
  first_yes e = rw e

  pub first_no_law : q.answer ≡ false → first_no (q ∷ qs) ≡ refused q.failure
  unfolding first_no
  first_no_law e = rw e

  pub passed_cons : first_no (q ∷ qs) ≡ passed → (q.answer ≡ true) × (first_no qs ≡ passed)
  unfolding first_no
  passed_cons = go q.answer
    where
      go : (b : Bool) → cond b (first_no qs) (refused q.failure) ≡ passed → (b ≡ true) × (first_no qs ≡ passed)
      go true e = (refl, e)
      go false e = absurd (refused≢passed e)

-- Two lists, one after the other.

pub append_passed : (xs ys : List Question) → first_no xs ≡ passed → first_no (xs ++ ys) ≡ first_no ys
append_passed [] ys e = refl
append_passed (q ∷ xs) ys e = let r = passed_cons q xs e in first_yes q (xs ++ ys) r.0 ∙ append_passed xs ys r.1

pub append_refused : (xs ys : List Question) (r : Failure) → first_no xs ≡ refused r → first_no (xs ++ ys) ≡ refused r
unfolding first_no
append_refused [] ys r e = absurd (refused≢passed (sym e))
append_refused (q ∷ xs) ys r e = go q.answer (append_refused xs ys r) e
  where
    go : (b : Bool) → (first_no xs ≡ refused r → first_no (xs ++ ys) ≡ refused r)
        → cond b (first_no xs) (refused q.failure) ≡ refused r → cond b (first_no (xs ++ ys)) (refused q.failure) ≡ refused r
    go true ih e = ih e
    go false ih e = e

pub passed_append : (xs ys : List Question) → first_no (xs ++ ys) ≡ passed → (first_no xs ≡ passed) × (first_no ys ≡ passed)
unfolding first_no
passed_append [] ys e = (refl, e)
passed_append (q ∷ xs) ys e =
    let r = passed_cons q (xs ++ ys) e in
    let t = passed_append xs ys r.1 in
    (first_yes q xs r.0 ∙ t.0, t.1)

-- Questions that get a place have the same first no, at that place.

unfoldable pub verdict_at : ℕ → Verdict → Verdict
verdict_at n passed = passed
verdict_at n (refused r) = refused (failed_at n r)

pub first_at : (n : ℕ) (qs : List Question) → first_no (all_at n qs) ≡ verdict_at n (first_no qs)
unfolding first_no all_at verdict_at
first_at n [] = refl
first_at n (q ∷ qs) = go q.answer (first_at n qs)
  where
    go : (b : Bool) → first_no (all_at n qs) ≡ verdict_at n (first_no qs)
        → cond b (first_no (map (λ q. q askedAt n) qs)) (refused (failed_at n q.failure)) ≡ verdict_at n (cond b (first_no qs) (refused q.failure))
    go true ih = ih
    go false ih = refl

-- What holds of the number and the atom of every question holds of those of a refusal.
module _ (H : ℕ → ℕ → Type 0) where
  abbrev pub Numbers : List Question → Type 0
  Numbers [] = Unit {0}
  Numbers (q ∷ qs) = H q.failure.refusal.number q.failure.atom × Numbers qs

  pub numbers_append : (xs ys : List Question) → Numbers xs → Numbers ys → Numbers (xs ++ ys)
  numbers_append [] ys h k = k
  numbers_append (q ∷ xs) ys h k = (h.0, numbers_append xs ys h.1 k)

  pub numbers_at : (n : ℕ) (qs : List Question) → Numbers qs → Numbers (all_at n qs)
  unfolding all_at
  numbers_at n [] h = tt
  numbers_at n (q ∷ qs) h = (h.0, numbers_at n qs h.1)

  pub refused_number : (qs : List Question) → Numbers qs → (f : Failure) → first_no qs ≡ refused f → H f.refusal.number f.atom
  unfolding first_no
  refused_number [] h f e = absurd (refused≢passed (sym e))
  refused_number (q ∷ qs) h f e = go q.answer (refused_number qs h.1 f) e
    where
      go : (b : Bool) → (first_no qs ≡ refused f → H f.refusal.number f.atom) → cond b (first_no qs) (refused q.failure) ≡ refused f
          → H f.refusal.number f.atom
      go true ih e = ih e
      go false ih e = let z : q.failure ≡ f = cc in subst (λ (t : Failure). H t.refusal.number t.atom) z h.0

-- The first no as a proposition.

pub first_found : {qs : List Question} {r : Failure} → FirstNo qs r → first_no qs ≡ refused r
first_found (here {q} {qs} e) = first_no_law q qs e
first_found (later {q} {qs} e h) = first_yes q qs e ∙ first_found h

pub found_first : (qs : List Question) (r : Failure) → first_no qs ≡ refused r → FirstNo qs r
unfolding first_no
found_first [] r e = absurd (refused≢passed (sym e))
found_first (q ∷ qs) r e = go q.answer refl e (found_first qs r)
  where
    go : (b : Bool) → q.answer ≡ b → cond b (first_no qs) (refused q.failure) ≡ refused r
        → (first_no qs ≡ refused r → FirstNo qs r) → FirstNo (q ∷ qs) r
    go true a e ih = later a (ih e)
    go false a e ih = let z : q.failure ≡ r = cc in subst (FirstNo (q ∷ qs)) z (here a)

pub all_found : {qs : List Question} → AllYes qs → first_no qs ≡ passed
unfolding first_no
all_found none = refl
all_found (more {q} {qs} e h) = first_yes q qs e ∙ all_found h

pub found_all : (qs : List Question) → first_no qs ≡ passed → AllYes qs
found_all [] e = none
found_all (q ∷ qs) e = let r = passed_cons q qs e in more r.0 (found_all qs r.1)

-- A call's answer: the first no, or a number 0.
pub data Tells (a : Failure) : Verdict → Type 0 where
  tells_refusal : Tells a (refused a)
  tells_passed : a.refusal.number ≡ 0 → Tells a passed

-- Whoever tells the first no of questions without the number 0, and leaves what was asked for where it refuses, answers first.
pub answers_first : (qs : List Question) (a : Failure) (U : Type 0) → Numbers (λ k a. k ≢ 0) qs → Tells a (first_no qs) → (a.refusal.number ≢ 0 → U)
    → AnswersFirst qs a U
answers_first qs a U h t u = record { refused_iff = λ q. (to q, from q); passed_iff = (yes', no'); untouched = u }
  where
    to : (q : Failure) → FirstNo qs q → (q.refusal.number ≢ 0) × (a ≡ q)
    to q f = go (first_no qs) t (first_found f) (refused_number (λ k a. k ≢ 0) qs h q (first_found f))
      where
        go : (v : Verdict) → Tells a v → v ≡ refused q → q.refusal.number ≢ 0 → (q.refusal.number ≢ 0) × (a ≡ q)
        go (refused b) tells_refusal e k = (k, cc)
        go passed (tells_passed z) e k = absurd (refused≢passed (sym e))

    from : (q : Failure) → (q.refusal.number ≢ 0) × (a ≡ q) → FirstNo qs q
    from q k = go (first_no qs) refl t
      where
        go : (v : Verdict) → first_no qs ≡ v → Tells a v → FirstNo qs q
        go (refused b) e tells_refusal = found_first qs q (e ∙ ap refused k.1)
        go passed e (tells_passed z) = absurd (k.0 (ap (λ (x : Failure). x.refusal.number) (sym k.1) ∙ z))

    yes' : AllYes qs → a.refusal.number ≡ 0
    yes' y = go (first_no qs) t (all_found y)
      where
        go : (v : Verdict) → Tells a v → v ≡ passed → a.refusal.number ≡ 0
        go (refused b) tells_refusal e = absurd (refused≢passed e)
        go passed (tells_passed z) e = z

    no' : a.refusal.number ≡ 0 → AllYes qs
    no' z = go (first_no qs) refl t
      where
        go : (v : Verdict) → first_no qs ≡ v → Tells a v → AllYes qs
        go (refused b) e tells_refusal = absurd (refused_number (λ k a. k ≢ 0) qs h a e z)
        go passed e (tells_passed y) = found_all qs e

-- Of questions that name no atom, the first no names none.
pub refused_unnamed : (qs : List Question) → Numbers (λ k a. a ≡ no_atom) qs → (f : Failure) → first_no qs ≡ refused f → f ≡ without_atom f.refusal
refused_unnamed qs h f e = ap (λ (a : ℕ). record { refusal = f.refusal; atom = a }) (refused_number (λ k a. a ≡ no_atom) qs h f e)

-- So a call that tells number and place alone tells that no.
pub tells_unnamed : (qs : List Question) → Numbers (λ k a. a ≡ no_atom) qs → (f : Failure) → first_no qs ≡ refused f
    → Tells (without_atom f.refusal) (refused f)
tells_unnamed qs h f e = subst (λ (g : Failure). Tells g (refused f)) (refused_unnamed qs h f e) tells_refusal

-- A check tells its first no.
pub answered_tells : (qs : List Question) → Numbers (λ k a. a ≡ no_atom) qs → Tells (without_atom (answered (first_no qs))) (first_no qs)
answered_tells qs h = go (first_no qs) refl
  where
    go : (v : Verdict) → first_no qs ≡ v → Tells (without_atom (answered v)) v
    go passed e = tells_passed refl
    go (refused f) e = tells_unnamed qs h f e

-- What a call that told the first no of some questions does with more questions behind them.
module _ (qs rest : List Question) (a : Refusal) (e : a ≡ answered (first_no qs)) where
  -- Told 0, they passed.
  pub answered_passed : Numbers (λ k a. k ≢ 0) qs → a.number ≡ 0 → first_no qs ≡ passed
  answered_passed h z = go (first_no qs) refl e
    where
      go : (v : Verdict) → first_no qs ≡ v → a ≡ answered v → first_no qs ≡ passed
      go passed f g = f
      go (refused q) f g = absurd (refused_number (λ k a. k ≢ 0) qs h q f (sym (ap (λ (r : Refusal). r.number) g) ∙ z))

  -- Then the questions behind are asked.
  pub answered_on : Numbers (λ k a. k ≢ 0) qs → a.number ≡ 0 → first_no (qs ++ rest) ≡ first_no rest
  answered_on h z = append_passed qs rest (answered_passed h z)

  -- Told another number, that stands.
  pub answered_stop : a.number ≢ 0 → a ≡ answered (first_no (qs ++ rest))
  answered_stop z = go (first_no qs) refl e
    where
      go : (v : Verdict) → first_no qs ≡ v → a ≡ answered v → a ≡ answered (first_no (qs ++ rest))
      go passed f g = absurd (z (ap (λ (r : Refusal). r.number) g))
      go (refused q) f g = g ∙ ap answered (sym (append_refused qs rest q f))
