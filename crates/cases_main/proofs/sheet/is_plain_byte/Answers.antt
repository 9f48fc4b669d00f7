-- Each arm's bytes are what the definition says of them. Assumes nothing.
use native.Mathlib.Omega.{arith}
use borrow.Author.Rules.{rules}
use Rattle.cases_main.proofs.Plains.{marked_plain, bracket_plain, digit_plain, below_brackets, below_digits, above_digits}
use Rattle.cases_main.proofs.sheet.is_plain_byte.Goals as goal

pub returns-in_default : goal.returns-in_default
returns-in_default c = below_brackets _ (search rules) (omega arith)

pub returns-in_default-2 : goal.returns-in_default-2
returns-in_default-2 c = below_digits _ (search rules) (omega arith) (omega arith)

pub returns-in_default-3 : goal.returns-in_default-3
returns-in_default-3 c = above_digits _ (search rules) (omega arith)

pub returns-in-48-to-57 : goal.returns-in-48-to-57
returns-in-48-to-57 c = marked_plain _ (search rules)

pub returns-in-48-to-57-2 : goal.returns-in-48-to-57-2
returns-in-48-to-57-2 c = bracket_plain _ (search rules) (omega arith) (omega arith)

pub returns-in-48-to-57-3 : goal.returns-in-48-to-57-3
returns-in-48-to-57-3 c = digit_plain _ (search rules) (omega arith) (omega arith)
