-- What is answered of a header's two numbers.
use Rattle.std.specs.Prelude.{ℕ, List, Result}
use Rattle.laws.specs.Lists.{at}
use Rattle.rules.specs.Refusals.{Answer, first}
use Rattle.rules.specs.Results.{reply}
use Rattle.rules.specs.Tables.{header_tests}
use Rattle.rules.specs.Frames.{Read}
use Rattle.rules.specs.Files.{at_line}
use Rattle.rules.specs.declared.refusal.Refused.{Refused}
use Rattle.tables.specs.declared.header.Header as Code

-- m and n
pub record Header : Type 0 where
  pub m : ℕ
  pub n : ℕ

-- m and n with their tests, at a line
unfoldable pub test_header : ℕ → ℕ → ℕ → Answer Header
test_header m n line = at_line line (first (header_tests m n)) (record { m = m; n = n })

-- what is returned, for numbers in hand
abbrev pub header_answer : Answer Header → Result Code.Header Refused
header_answer a = reply (λ h. record { m = record { 0 = h.m }; n = record { 0 = h.n } }) a

-- and for a line that was read
abbrev pub header_read : Answer (Read (List ℕ)) → Result Code.Header Refused
header_read a = reply (λ h. record { m = record { 0 = at h.got 1 }; n = record { 0 = at h.got 2 } }) a
