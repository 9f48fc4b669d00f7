-- What the listing program's replay says, and what went out. Document 02, Req 03.
use Rattle.std.specs.Prelude.{ℕ, ◌≡◌, ◌≢◌, List, take, Option, None, Some}
use Rattle.listing_main.specs.Listed.{listing, number_to}
use Rattle.listing_main.specs.declared.answer.Printed.{Printed}
use Rattle.listing_main.specs.declared.answer.Printed.TheVariants.{Tree, Refusal, Unwritten}

-- Accepted, and then no heading is put; or refused, and then the first bytes of the room are the whole text.
abbrev pub Judges : List ℕ → List ℕ → List ℕ → List ℕ → Option ℕ → Type 0
Judges shop sheet trace room None = number_to shop sheet trace ≡ 0
Judges shop sheet trace room (Some end) = (number_to shop sheet trace ≢ 0) × (take end room ≡ listing shop sheet trace)

-- A tree went out exactly where the replay accepts. What else went out where not all was written is left free.
abbrev pub Prints : List ℕ → List ℕ → List ℕ → Printed → Type 0
Prints shop sheet trace Tree = number_to shop sheet trace ≡ 0
Prints shop sheet trace Refusal = number_to shop sheet trace ≢ 0
Prints shop sheet trace Unwritten = Unit {0}
