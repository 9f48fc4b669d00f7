-- Why the call that writes the join answers what it does, and what stands in its room. Assumes nothing.
use Prim.Native.Nat.{ℕ, suc, ◌+◌, ◌*◌, ◌≤◌, ◌<◌}
use native.Mathlib.Omega.{arith}
use native.Mathlib.Nat.{mul_comm}
use mathlib.Core.Path.{◌≡◌, refl, sym, ap, ap₂, ◌∙◌}
use mathlib.Core.Bool.{Bool, true, false}
use mathlib.Core.Logic.{◌≢◌}
use mathlib.Core.List.{List, [], ◌∷◌, ◌++◌}
use lib.Dec.{leb}
use lib.ListN.{length, take, drop, length-append, length-drop}
use lib.Seq.{take-append_seam, drop-append_seam}
use borrow.Author.Tests.{leb-true, leb-false}
use Rattle.hgn.specs.Questions.{Refusal, Failure, Question, ◌asks◌, Verdict, passed, refused, first_no, no_refusal}
use Rattle.hgn.specs.State.{no_atom}
use Rattle.hgn.specs.Rows.{row_words, most_rows}
use Rattle.hgn.specs.Meaning.{Order}
use Rattle.hgn.specs.Join.{join}
use Rattle.hgn.specs.Shop.{shop_questions}
use Rattle.hgn.specs.Order.{order, goal_count, row_count, most_goals, size_words, order_questions, check_order}
use Rattle.hgn.specs.Lent.{Lent, unwritten, overwritten, asking, writing}
use Rattle.hgn.specs.JoinSheet.{joined_rows, joined_words, sheet_questions, join_questions, write_join, sheet_in}
use Rattle.hgn.specs.Replay.{rules_of}
use Rattle.hgn.specs.Written.{order_rows, order_words}
use Rattle.hgn.specs.Shop as Shop
use Rattle.hgn.specs.Demands.{by, BothPass, JoinedIsJoin, RefusedJoins, SameJoins, EitherGrouping, JoinAnswers}
use Rattle.hgn.proofs.Questions.FirstNo.{Numbers, numbers_append, refused_number, refused≢passed, append_passed, append_refused, passed_append}
use Rattle.hgn.proofs.Questions.Numbers.{of_order_law, order_numbers, not_zero}
use Rattle.hgn.proofs.Questions.Lent.{asking_refused, asking_passed, lent_answers}
use Rattle.hgn.proofs.Sheets.Passed.{order_passed}
use Rattle.hgn.proofs.Sheets.Readback.{words_length}
use Rattle.hgn.proofs.Sheets.Written.{order_length}
use Rattle.hgn.proofs.Join.Rows.{join_length, joined_goals, joined_rows_law, joined_words_law}
use Rattle.hgn.proofs.Join.Sheets.{joined_passes, joined_means}
use Rattle.hgn.proofs.Join.Groups.{join_groups}
use Rattle.hgn.proofs.Join.Rule.{demand_3}

number_of : {q r : Refusal} → q ≡ r → q.number ≡ r.number
number_of e = ap (λ (q : Refusal). q.number) e

-- The questions behind those of the sheets: of so many goals, so many rows and so much room.
abbrev pub size_questions : ℕ → ℕ → ℕ → List Question
size_questions goals rows room =
    81 asks leb goals most_goals ∷ 82 asks leb rows most_rows ∷ 83 asks leb (size_words + 2 * rows) room ∷ []

module _ (shop first second : List ℕ) where
  -- Both orders pass exactly where the questions of the sheets are answered yes.
  pub sheets_pass : BothPass shop first second → first_no (sheet_questions shop first second) ≡ passed
  unfolding check_order
  sheets_pass h =
      append_passed (shop_questions shop ++ order_questions shop first) (order_questions shop second) h.0
      ∙ (passed_append (shop_questions shop) (order_questions shop second) h.1).1

  pub both_pass : first_no (sheet_questions shop first second) ≡ passed → BothPass shop first second
  unfolding check_order
  both_pass e =
      let h = passed_append (shop_questions shop ++ order_questions shop first) (order_questions shop second) e in
      let k = passed_append (shop_questions shop) (order_questions shop first) h.0 in
      (h.0, append_passed (shop_questions shop) (order_questions shop second) k.0 ∙ h.1)

  pub sheets_numbers : (H : ℕ → ℕ → Type 0) → ((k : ℕ) → k < 28 → H (suc k) no_atom) → Numbers H (sheet_questions shop first second)
  sheets_numbers H given =
      numbers_append H (shop_questions shop ++ order_questions shop first) _ (of_order_law H given shop first) (order_numbers H given shop second)

  abbrev goals : ℕ
  goals = goal_count first + goal_count second

  abbrev rows : ℕ
  rows = length (joined_rows first second)

  module _ (room : List ℕ) where
    abbrev questions : List Question
    questions = join_questions shop first second room

    pub join_numbers : (H : ℕ → ℕ → Type 0) → ((k : ℕ) → k < 28 → H (suc k) no_atom) → H 81 no_atom → H 82 no_atom → H 83 no_atom → Numbers H questions
    unfolding join_questions
    join_numbers H given a b c = numbers_append H (sheet_questions shop first second) _ (sheets_numbers H given) (a, (b, (c, tt)))

    pub join_answers : (c : Lent (List ℕ)) → c ≡ write_join shop first second room → JoinAnswers shop first second room c
    unfolding write_join writing unwritten
    join_answers c e = record {
      first =
          lent_answers questions room _ (join_numbers (λ k a. k ≢ 0) not_zero (omega arith) (omega arith) (omega arith))
          (join_numbers (λ k a. a ≡ no_atom) (λ k l. refl) refl refl refl) refl c e;
      written_place = go (first_no questions) refl;
    }
      where
        go : (v : Verdict) → first_no questions ≡ v → c.refusal.number ≡ 0 → c.refusal.place ≡ 0
        go passed f z = ap (λ (d : Lent (List ℕ)). d.refusal.place) (e ∙ asking_passed questions room _ f)
        go (refused q) f z =
            absurd
            (refused_number (λ k a. k ≢ 0) questions (join_numbers (λ k a. k ≢ 0) not_zero (omega arith) (omega arith) (omega arith)) q f
            (sym (ap (λ (d : Lent (List ℕ)). d.refusal.number) (e ∙ asking_refused questions room _ q f)) ∙ z))

    -- After the sheets have passed, the sizes are asked.
    pub sizes_asked : BothPass shop first second → first_no questions ≡ first_no (size_questions goals rows (length room))
    unfolding join_questions
    sizes_asked h = append_passed (sheet_questions shop first second) _ (sheets_pass h)

    -- A refused call tells the first no of its questions; one of the sheets' is that of the order that was asked.
    module _ (c : Lent (List ℕ)) (e : c ≡ write_join shop first second room) where
      told : (f : Failure) → first_no questions ≡ refused f → c.refusal ≡ f.refusal
      unfolding write_join writing unwritten
      told f r = ap (λ (d : Lent (List ℕ)). d.refusal) (e ∙ asking_refused questions room _ f r)

      sheets_refused : (f : Failure) → first_no (sheet_questions shop first second) ≡ refused f → c.refusal ≡ f.refusal
      unfolding join_questions
      sheets_refused f r = told f (append_refused (sheet_questions shop first second) _ f r)

      first_refused : (f : Failure) → check_order shop first ≡ refused f → c.refusal ≡ f.refusal
      unfolding check_order
      first_refused f r = sheets_refused f (append_refused (shop_questions shop ++ order_questions shop first) (order_questions shop second) f r)

      second_refused : check_order shop first ≡ passed → (f : Failure) → check_order shop second ≡ refused f → c.refusal ≡ f.refusal
      unfolding check_order
      second_refused p f r =
          let shops = (passed_append (shop_questions shop) (order_questions shop first) p).0 in
          sheets_refused f
          (append_passed (shop_questions shop ++ order_questions shop first) (order_questions shop second) p
          ∙ sym (append_passed (shop_questions shop) (order_questions shop second) shops) ∙ r)

    -- Why the call answers so.
    pub data Because (c : Lent (List ℕ)) : Type 0 where
      of_sheets : c.refusal.number ≢ 0 → c.refusal.number < 81 → ¬ BothPass shop first second → Because c
      of_goals : BothPass shop first second → most_goals < goals → c.refusal ≡ by 81 → Because c
      of_rows : BothPass shop first second → goals ≤ most_goals → most_rows < rows → c.refusal ≡ by 82 → Because c
      of_room : BothPass shop first second → goals ≤ most_goals → rows ≤ most_rows → length room < size_words + 2 * rows → c.refusal ≡ by 83
          → Because c
      of_nothing : BothPass shop first second → goals ≤ most_goals → rows ≤ most_rows → size_words + 2 * rows ≤ length room → c.refusal ≡ by 0
          → c.room ≡ overwritten (joined_words first second) room → Because c

    because : (c : Lent (List ℕ)) → c ≡ write_join shop first second room → Because c
    unfolding write_join writing first_no
    because c e = go (first_no (sheet_questions shop first second)) refl
      where
        sized : BothPass shop first second → (x : Bool) → leb goals most_goals ≡ x → (y : Bool) → leb rows most_rows ≡ y
            → (z : Bool) → leb (size_words + 2 * rows) (length room) ≡ z → Because c
        sized h false p y q z r = of_goals h (leb-false _ _ p) (told c e (81 asks false).failure (sizes_asked h ∙ rw p))
        sized h true p false q z r = of_rows h (leb-true _ _ p) (leb-false _ _ q) (told c e (82 asks false).failure (sizes_asked h ∙ rw (p, q)))
        sized h true p true q false r =
            of_room h (leb-true _ _ p) (leb-true _ _ q) (leb-false _ _ r) (told c e (83 asks false).failure (sizes_asked h ∙ rw (p, q, r)))
        sized h true p true q true r =
            let is = e ∙ asking_passed questions room _ (sizes_asked h ∙ rw (p, q, r)) in
            of_nothing h (leb-true _ _ p) (leb-true _ _ q) (leb-true _ _ r) (ap (λ (d : Lent (List ℕ)). d.refusal) is)
            (ap (λ (d : Lent (List ℕ)). d.room) is)

        go : (v : Verdict) → first_no (sheet_questions shop first second) ≡ v → Because c
        go passed f = sized (both_pass f) (leb goals most_goals) refl (leb rows most_rows) refl (leb (size_words + 2 * rows) (length room)) refl
        go (refused q) f =
            let m = number_of (sheets_refused c e q f) in
            let z = refused_number (λ k a. k ≢ 0) (sheet_questions shop first second) (sheets_numbers (λ k a. k ≢ 0) not_zero) q f in
            let l = refused_number (λ k a. k < 81) (sheet_questions shop first second) (sheets_numbers (λ k a. k < 81) (λ k l. omega arith)) q f in
            of_sheets (rw m z) (rw m l) (λ h. refused≢passed (sym f ∙ sheets_pass h))

-- The sheet that stands first in a room that was written.

words_sized : (first second : List ℕ) → length (joined_words first second) ≡ size_words + 2 * length (joined_rows first second)
unfolding joined_words
words_sized first second = omega (arith, words_length (joined_rows first second))

rows_told : (first second rest : List ℕ) → row_count (joined_words first second ++ rest) ≡ length (joined_rows first second)
unfolding joined_words row_words
rows_told first second rest = refl

pub sheet_in_law : (first second room : List ℕ) → sheet_in (overwritten (joined_words first second) room) ≡ joined_words first second
unfolding sheet_in overwritten
sheet_in_law first second room =
    let rest = drop (length (joined_words first second)) room in
    ap (λ (n : ℕ). take n (joined_words first second ++ rest))
    (ap (λ (n : ℕ). size_words + 2 * n) (rows_told first second rest) ∙ sym (words_sized first second))
    ∙ take-append_seam (joined_words first second) rest

-- The call has written.
pub record Wrote (shop first second room : List ℕ) (c : Lent (List ℕ)) : Type 0 where
  pub both : BothPass shop first second
  pub enough : size_words + 2 * length (joined_rows first second) ≤ length room
  pub left : c.room ≡ overwritten (joined_words first second) room
  pub sheet : sheet_in c.room ≡ joined_words first second
  pub passes : check_order shop (joined_words first second) ≡ passed
  pub means : order (joined_words first second) ≡ join (order first) (order second)

-- The sizes in the sheets' words are those of their meaning.
module _ (shop first second : List ℕ) (h : BothPass shop first second) where
  pub goals_are : length (order first).goals + length (order second).goals ≡ goal_count first + goal_count second
  goals_are = ap₂ ◌+◌ (order_passed shop first h.0).goal_count_law (order_passed shop second h.1).goal_count_law

  pub rows_are : (rows : ℕ)
      → rows + length (order second).start ≡ row_count first + row_count second + length (order first).goals * length (order second).goals
      → rows ≡ length (joined_rows first second)
  rows_are rows e =
      omega (
        arith,
        e,
        ap length (joined_rows_law shop first second h.0 h.1),
        join_length (order first) (order second),
        order_length shop first h.0,
        order_length shop second h.1,
        mul_comm (length (order first).goals) (length (order second).goals),
      )

pub wrote : (shop first second room : List ℕ) (c : Lent (List ℕ)) → c ≡ write_join shop first second room → c.refusal.number ≡ 0
    → Wrote shop first second room c
wrote shop first second room c e z = go (because shop first second room c e)
  where
    go : Because shop first second room c → Wrote shop first second room c
    go (of_sheets n l h) = absurd (n z)
    go (of_goals h g n) = absurd (omega (arith, number_of n))
    go (of_rows h g r n) = absurd (omega (arith, number_of n))
    go (of_room h g r l n) = absurd (omega (arith, number_of n))
    go (of_nothing h g r l n w) =
        let few : length (order first).goals + length (order second).goals ≤ most_goals = omega (arith, goals_are shop first second h) in
        record {
          both = h;
          enough = l;
          left = w;
          sheet = ap sheet_in w ∙ sheet_in_law first second room;
          passes = joined_passes shop first second h.0 h.1 few r;
          means = joined_means shop first second h.0 h.1;
        }

pub joined_is_join : JoinedIsJoin
unfolding overwritten
joined_is_join shop first second room c e z =
    let w = wrote shop first second room c e z in
    let words = joined_words first second in
    record {
      words = w.left ∙ ap (λ (l : List ℕ). overwritten l room) (joined_words_law shop first second w.both.0 w.both.1);
      sheet = w.sheet ∙ joined_words_law shop first second w.both.0 w.both.1;
      passes = rw w.sheet w.passes;
      means = rw w.sheet w.means;
      later_words = rw (w.sheet, w.left) (drop-append_seam words (drop (length words) room));
      room_length =
          ap length w.left ∙ omega (arith, length-append words (drop (length words) room), length-drop (length words) room, words_sized first second, w.enough);
    }

told_81 : (shop first second room : List ℕ) (c : Lent (List ℕ)) → Because shop first second room c → c.refusal.number ≡ 81 → c.refusal ≡ by 81
told_81 shop first second room c (of_sheets n l h) z = absurd (omega arith)
told_81 shop first second room c (of_goals h g n) z = n
told_81 shop first second room c (of_rows h g r n) z = absurd (omega (arith, number_of n))
told_81 shop first second room c (of_room h g r l n) z = absurd (omega (arith, number_of n))
told_81 shop first second room c (of_nothing h g r l n w) z = absurd (omega (arith, number_of n))

module _ (shop first second room : List ℕ) (c : Lent (List ℕ)) (rows : ℕ)
    (k : rows + length (order second).start ≡ row_count first + row_count second + length (order first).goals * length (order second).goals) where
  abbrev Both : Type 0
  Both = BothPass shop first second

  abbrev few : ℕ
  few = length (order first).goals + length (order second).goals

  to_81 : Because shop first second room c → c.refusal ≡ by 81 → Both × (64 < few)
  to_81 (of_sheets n l h) z = absurd (omega (arith, number_of z))
  to_81 (of_goals h g n) z = (h, omega (arith, goals_are shop first second h))
  to_81 (of_rows h g r n) z = absurd (omega (arith, number_of n, number_of z))
  to_81 (of_room h g r l n) z = absurd (omega (arith, number_of n, number_of z))
  to_81 (of_nothing h g r l n w) z = absurd (omega (arith, number_of n, number_of z))

  from_81 : Because shop first second room c → Both × (64 < few) → c.refusal ≡ by 81
  from_81 (of_sheets n l h) z = absurd (h z.0)
  from_81 (of_goals h g n) z = n
  from_81 (of_rows h g r n) z = absurd (omega (arith, goals_are shop first second h, z.1))
  from_81 (of_room h g r l n) z = absurd (omega (arith, goals_are shop first second h, z.1))
  from_81 (of_nothing h g r l n w) z = absurd (omega (arith, goals_are shop first second h, z.1))

  to_82 : Because shop first second room c → c.refusal ≡ by 82 → Both × (few ≤ 64) × (4000 < rows)
  to_82 (of_sheets n l h) z = absurd (omega (arith, number_of z))
  to_82 (of_goals h g n) z = absurd (omega (arith, number_of n, number_of z))
  to_82 (of_rows h g r n) z = (h, omega (arith, goals_are shop first second h), omega (arith, rows_are shop first second h rows k))
  to_82 (of_room h g r l n) z = absurd (omega (arith, number_of n, number_of z))
  to_82 (of_nothing h g r l n w) z = absurd (omega (arith, number_of n, number_of z))

  from_82 : Because shop first second room c → Both × (few ≤ 64) × (4000 < rows) → c.refusal ≡ by 82
  from_82 (of_sheets n l h) z = absurd (h z.0)
  from_82 (of_goals h g n) z = absurd (omega (arith, goals_are shop first second h, z.1))
  from_82 (of_rows h g r n) z = n
  from_82 (of_room h g r l n) z = absurd (omega (arith, rows_are shop first second h rows k, z.2))
  from_82 (of_nothing h g r l n w) z = absurd (omega (arith, rows_are shop first second h rows k, z.2))

  to_83 : Because shop first second room c → c.refusal ≡ by 83 → Both × (few ≤ 64) × (rows ≤ 4000) × (length room < 3 + 2 * rows)
  to_83 (of_sheets n l h) z = absurd (omega (arith, number_of z))
  to_83 (of_goals h g n) z = absurd (omega (arith, number_of n, number_of z))
  to_83 (of_rows h g r n) z = absurd (omega (arith, number_of n, number_of z))
  to_83 (of_room h g r l n) z = let e = rows_are shop first second h rows k in (h, omega (arith, goals_are shop first second h), omega (arith, e), omega (arith, e))
  to_83 (of_nothing h g r l n w) z = absurd (omega (arith, number_of n, number_of z))

  from_83 : Because shop first second room c → Both × (few ≤ 64) × (rows ≤ 4000) × (length room < 3 + 2 * rows) → c.refusal ≡ by 83
  from_83 (of_sheets n l h) z = absurd (h z.0)
  from_83 (of_goals h g n) z = absurd (omega (arith, goals_are shop first second h, z.1))
  from_83 (of_rows h g r n) z = absurd (omega (arith, rows_are shop first second h rows k, z.2))
  from_83 (of_room h g r l n) z = n
  from_83 (of_nothing h g r l n w) z = absurd (omega (arith, rows_are shop first second h rows k, z.3))

  to_0 : Because shop first second room c → c.refusal ≡ by 0 → Both × (few ≤ 64) × (rows ≤ 4000) × (3 + 2 * rows ≤ length room)
  to_0 (of_sheets n l h) z = absurd (n (number_of z))
  to_0 (of_goals h g n) z = absurd (omega (arith, number_of n, number_of z))
  to_0 (of_rows h g r n) z = absurd (omega (arith, number_of n, number_of z))
  to_0 (of_room h g r l n) z = absurd (omega (arith, number_of n, number_of z))
  to_0 (of_nothing h g r l n w) z = let e = rows_are shop first second h rows k in (h, omega (arith, goals_are shop first second h), omega (arith, e), omega (arith, e))

  from_0 : Because shop first second room c → Both × (few ≤ 64) × (rows ≤ 4000) × (3 + 2 * rows ≤ length room) → c.refusal ≡ by 0
  from_0 (of_sheets n l h) z = absurd (h z.0)
  from_0 (of_goals h g n) z = absurd (omega (arith, goals_are shop first second h, z.1))
  from_0 (of_rows h g r n) z = absurd (omega (arith, rows_are shop first second h rows k, z.2))
  from_0 (of_room h g r l n) z = absurd (omega (arith, rows_are shop first second h rows k, z.3))
  from_0 (of_nothing h g r l n w) z = n

pub refused_joins : RefusedJoins
refused_joins shop first second room c e rows k =
    let b = because shop first second room c e in
    record {
      of_first = λ f r. first_refused shop first second room c e f r;
      of_second = λ p f r. second_refused shop first second room c e p f r;
      by_81 = (to_81 shop first second room c rows k b, from_81 shop first second room c rows k b);
      by_82 = (to_82 shop first second room c rows k b, from_82 shop first second room c rows k b);
      by_83 = (to_83 shop first second room c rows k b, from_83 shop first second room c rows k b);
      written = (to_0 shop first second room c rows k b, from_0 shop first second room c rows k b);
      none_accepted = λ z xs.
          let h = to_81 shop first second room c rows k b (told_81 shop first second room c b z) in
          (demand_3 shop first second h.0.0 h.0.1 (rules_of shop) refl xs).too_many h.1;
    }

-- Three orders: what was written joined with the third, and the first joined with what was written, have the same sizes and the same words.

same_answer : {Room : Type 0} (qs rs : List Question) (room : Room) (done other : Lent Room) → first_no qs ≡ first_no rs → done ≡ other
    → asking qs room done ≡ asking rs room other
same_answer qs rs room done other e d = go (first_no rs) refl
  where
    go : (v : Verdict) → first_no rs ≡ v → asking qs room done ≡ asking rs room other
    go passed f = asking_passed qs room done (e ∙ f) ∙ d ∙ sym (asking_passed rs room other f)
    go (refused q) f = asking_refused qs room done q (e ∙ f) ∙ sym (asking_refused rs room other q f)

module _ (shop first second third fourth : List ℕ) (one : BothPass shop first second) (two : BothPass shop third fourth)
    (same : join (order first) (order second) ≡ join (order third) (order fourth)) where
  same_rows : joined_rows first second ≡ joined_rows third fourth
  same_rows =
      joined_rows_law shop first second one.0 one.1 ∙ ap order_rows same ∙ sym (joined_rows_law shop third fourth two.0 two.1)

  same_words : joined_words first second ≡ joined_words third fourth
  same_words =
      joined_words_law shop first second one.0 one.1 ∙ ap (order_words (Shop.atom_count shop)) same
      ∙ sym (joined_words_law shop third fourth two.0 two.1)

  same_goals : goal_count first + goal_count second ≡ goal_count third + goal_count fourth
  same_goals =
      sym (goals_are shop first second one) ∙ sym (joined_goals (order first) (order second)) ∙ ap (λ (o : Order). length o.goals) same
      ∙ joined_goals (order third) (order fourth) ∙ goals_are shop third fourth two

  -- Two pairs of orders that join to one order are answered alike.
  same_joins : (room : List ℕ) → write_join shop first second room ≡ write_join shop third fourth room
  unfolding write_join writing
  same_joins room =
      same_answer (join_questions shop first second room) (join_questions shop third fourth room) room _ _
      (sizes_asked shop first second room one
      ∙ ap₂ (λ (g r : ℕ). first_no (size_questions g r (length room))) same_goals (ap length same_rows)
      ∙ sym (sizes_asked shop third fourth room two))
      (ap (λ (words : List ℕ). record { refusal = no_refusal; room = overwritten words room }) same_words)

  -- And where both are written, so are the same words.
  same_sheets : SameJoins shop first second third fourth
  same_sheets = record {
    alike = same_joins;
    same_words = λ room one e z other two f y.
        (wrote shop first second room one e z).sheet ∙ same_words ∙ sym (wrote shop third fourth other two f y).sheet;
  }

pub either_grouping : EitherGrouping
either_grouping shop a b c leftRoom left e z rightRoom right f y =
    let u = wrote shop a b leftRoom left e z in
    let v = wrote shop b c rightRoom right f y in
    rw (u.sheet, v.sheet)
    (same_sheets shop (joined_words a b) c a (joined_words b c) (u.passes, v.both.1) (u.both.0, v.passes)
    (ap (λ (o : Order). join o (order c)) u.means ∙ join_groups (order a) (order b) (order c) ∙ ap (join (order a)) (sym v.means)))
