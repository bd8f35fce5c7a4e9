-- What is returned for a header says of the header that was read.
use Rattle.std.proofs.Common.{◌≡◌, refl, ap, ◌∙◌, ℕ, ◌≤◌, List, length, drop, arith, Some, None, Ok, Err}
use Rattle.std.proofs.Math.Option.{Option, none, some}
use Rattle.laws.proofs.Tests.{never}
use Rattle.laws.specs.Lists.{at}
use Rattle.rules.specs.Limits.{tasks_max}
use Rattle.rules.specs.Refusals.{Answer, taken, and_then, first}
use Rattle.rules.specs.Results.{option}
use Rattle.rules.specs.Tables.{header_tests}
use Rattle.rules.specs.Frames.{Read, header, read_frame}
use Rattle.rules.specs.Files.{at_line, due_at, read_header}
use Rattle.rules.specs.declared.refusal.Refusal.{Refusal}
use Rattle.rules.specs.declared.refusal.Refusal.TheVariants.{BadLine}
use Rattle.rules.proofs.Results.{option_none}
use Rattle.reading_laws.proofs.Tests.{header-iff, none_passes}
use Rattle.tables.specs.Pairs.{two_of}
use Rattle.tables.specs.Headers.{test_header, header_answer, header_read}
use Rattle.tables.specs.declared.header.Header.{Header}
use Rattle.tables.proofs.Pairs.{pair_rest}

-- where no frame was read
pub header_missing : (s : List ℕ) → option two_of (read_frame header s) ≡ None → Err (record { refusal = BadLine; line = 1 }) ≡ header_read (read_header s)
unfolding read_header
header_missing s e = rw (option_none two_of (read_frame header s) e)

at-line : (h : Read (List ℕ)) (o : Option Refusal) → header_answer (at_line 1 o (record { m = at h.got 1; n = at h.got 2 })) ≡ header_read (at_line 1 o h)
at-line h none = refl
at-line h (some x) = refl

-- where one was
pub header_found : (s : List ℕ) (m n : ℕ) → option two_of (read_frame header s) ≡ Some (m, n) → header_answer (test_header m n 1) ≡ header_read (read_header s)
unfolding read_header test_header
header_found s m n e = by_cases (read_frame header s) e
  where
    by_cases : (o : Option (Read (List ℕ))) → option two_of o ≡ Some (m, n)
        → header_answer (test_header m n 1) ≡ header_read (and_then (due_at 1 o) (λ h. at_line 1 (first (header_tests (at h.got 1) (at h.got 2))) h))
    by_cases none e = never cc
    by_cases (some h) e =
        let both : ◌≡◌ {A = ℕ × ℕ} (at h.got 1, at h.got 2) (m, n) = cc in
        let em : at h.got 1 ≡ m = ap (λ (p : ℕ × ℕ). p.0) both in
        let en : at h.got 2 ≡ n = ap (λ (p : ℕ × ℕ). p.1) both in
        rw (← em, ← en) (at-line h (first (header_tests (at h.got 1) (at h.got 2))))

-- a header that is good: its numbers are in their bounds, and the text goes on after its line
pub record Headed (s : List ℕ) (m n : ℕ) : Type 0 where
  pub long : 7 ≤ length s
  pub got : List ℕ
  pub first_is : at got 1 ≡ m
  pub second_is : at got 2 ≡ n
  pub read : read_header s ≡ taken (record { got = got; rest = drop 7 s })
  pub tasks : n ≤ tasks_max

-- what is returned says of the header
pub header-taken : (s : List ℕ) (h : Header) → header_read (read_header s) ≡ Ok h → Headed s h.m.0 h.n.0
unfolding read_header
header-taken s x e = by_cases (read_frame header s) refl e
  where
    tested : Read (List ℕ) → Answer (Read (List ℕ))
    tested h = at_line 1 (first (header_tests (at h.got 1) (at h.got 2))) h

    by_test : (h : Read (List ℕ)) (o : Option Refusal) → first (header_tests (at h.got 1) (at h.got 2)) ≡ o → 7 ≤ length s → h.rest ≡ drop 7 s
        → read_header s ≡ at_line 1 o h → header_read (at_line 1 o h) ≡ Ok x → Headed s x.m.0 x.n.0
    by_test h none p long q f e =
        let same : ◌≡◌ {A = Header} (record { m = record { 0 = at h.got 1 }; n = record { 0 = at h.got 2 } }) x = cc in
        let tasks : at h.got 2 ≡ x.n.0 = ap (λ (h : Header). h.n.0) same in
        let fine = (header-iff (at h.got 1) (at h.got 2)).0 (none_passes (header_tests (at h.got 1) (at h.got 2)) p) in
        record { long = long; got = h.got; first_is = ap (λ (h : Header). h.m.0) same; second_is = tasks; read = f ∙ rw (← q); tasks = omega (arith, fine.1.most) }
    by_test h (some r) p long q f e = never cc

    by_cases : (o : Option (Read (List ℕ))) → read_frame header s ≡ o → header_read (and_then (due_at 1 o) tested) ≡ Ok x → Headed s x.m.0 x.n.0
    by_cases none q e = never cc
    by_cases (some h) q e =
        let p = pair_rest s 1 2 h q in
        by_test h (first (header_tests (at h.got 1) (at h.got 2))) refl p.0 p.1 (rw q) e
