-- Rows put into lent room, where a sheet's rows stand. Document 01, "The three sheets".
use Rattle.std.specs.Prelude.{ℕ, suc, ◌+◌, List, [], ◌∷◌, set}
use Rattle.hgn.specs.Rows.{Row}

-- The room with row `i` of a sheet put in that has `sizes` words before its `n` rows: the tag among the tags, the value among the values.
abbrev pub put_row : ℕ → ℕ → ℕ → Row → List ℕ → List ℕ
put_row sizes n i r room = set (set room (sizes + i) r.tag) (sizes + n + i) r.value

-- The room with these rows put in, from row `i` on.
unfoldable pub put_rows : ℕ → ℕ → ℕ → List Row → List ℕ → List ℕ
put_rows sizes n i [] room = room
put_rows sizes n i (r ∷ rs) room = put_rows sizes n (suc i) rs (put_row sizes n i r room)
