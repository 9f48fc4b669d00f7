-- The shop sheet: its sizes, its meaning, and the questions 1 to 9. Document 01, "The three sheets" and "Questions".
use Rattle.std.specs.Prelude.{ℕ, suc, ◌+◌, ◌*◌, Bool, ◌&&◌, List, [], ◌∷◌, ◌++◌, eqb, leb, length}
use Rattle.hgn.specs.Questions.{Question, ◌asks◌, ◌askedAt◌, Verdict, first_no}
use Rattle.hgn.specs.Rows.{Row, word, rows_of, most_rows}
use Rattle.hgn.specs.RowQuestions.{row_questions, position_after}
use Rattle.hgn.specs.Tag.{shop_follow, opening, may_end}
use Rattle.hgn.specs.Meaning.{Domain, Method, domain_of, last_of}
use Rattle.hgn.specs.State.{most_atoms}

-- The sizes F, K, M and N.
abbrev pub atom_count : List ℕ → ℕ
atom_count shop = word shop 0

abbrev pub action_count : List ℕ → ℕ
action_count shop = word shop 1

abbrev pub method_count : List ℕ → ℕ
method_count shop = word shop 2

abbrev pub row_count : List ℕ → ℕ
row_count shop = word shop 3

-- The words before the rows.
abbrev pub size_words : ℕ
size_words = 4

-- The most actions of a shop sheet: the moves 1 to 255.
abbrev pub most_actions : ℕ
most_actions = 255

-- The most methods of a shop sheet: the moves 256 to 510.
abbrev pub most_methods : ℕ
most_methods = 255

-- The most nodes of a method.
abbrev pub most_nodes : ℕ
most_nodes = 63

unfoldable pub shop_rows : List ℕ → List Row
shop_rows shop = rows_of size_words (row_count shop) shop

-- What a shop sheet that passes means.
unfoldable pub domain : List ℕ → Domain
domain shop = domain_of (shop_rows shop)

unfoldable pub sizes_in_range : List ℕ → Bool
sizes_in_range shop =
    leb 1 (atom_count shop) && leb (atom_count shop) most_atoms && leb (action_count shop) most_actions
    && leb (method_count shop) most_methods && leb (row_count shop) most_rows

-- The node rules: a method's nodes number 1 to 63; its last listed node has exactly one alternative and no 11 rows.
unfoldable pub node_rules : Method → Bool
node_rules m =
    leb 1 (length m.nodes) && leb (length m.nodes) most_nodes && eqb (length (last_of m.nodes).formula) 1
    && eqb (length (last_of m.nodes).after) 0

-- "Each method within its node rules? 9 (at the number, from 0, of the first method that isn't)": `i` is the method.
unfoldable pub method_questions : ℕ → List Method → List Question
method_questions i [] = []
method_questions i (m ∷ ms) = 9 asks node_rules m askedAt i ∷ method_questions (suc i) ms

-- "Then: may it end here? 7. K actions and M methods? 8. Each method within its node rules? 9".
unfoldable pub shop_end_questions : List ℕ → List Question
shop_end_questions shop =
    7 asks may_end (position_after opening (shop_rows shop)).context
    ∷ 8 asks (eqb (length (domain shop).actions) (action_count shop) && eqb (length (domain shop).methods) (method_count shop))
    ∷ method_questions 0 (domain shop).methods

-- "Shop: at least 4 words long? 1. F, K, M, N in range? 2. Length 4 + 2N? 3. Then row by row" 4 to 6, then 7 to 9.
unfoldable pub shop_questions : List ℕ → List Question
shop_questions shop =
    1 asks leb size_words (length shop)
    ∷ 2 asks sizes_in_range shop
    ∷ 3 asks eqb (length shop) (size_words + 2 * row_count shop)
    ∷ row_questions shop_follow 4 (atom_count shop) 0 opening (shop_rows shop) ++ shop_end_questions shop

unfoldable pub check_shop : List ℕ → Verdict
check_shop shop = first_no (shop_questions shop)
