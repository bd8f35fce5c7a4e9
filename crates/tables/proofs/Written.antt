-- A text of so many bytes in a lent buffer, by the test for room.
use Rattle.std.proofs.Common.{Ok, Err}
use Prim.Native.Nat.{ℕ, ◌+◌, ◌-◌, ◌≤◌}
use mathlib.Core.Path.{◌≡◌, sym, ap, ◌∙◌}
use mathlib.Core.List.{List, ◌++◌}
use native.Mathlib.Omega.{arith}
use borrow.Author.Tests.{lt-ltb, le-ltb}
use borrow.Rule.Slice.PartMut.{mid_of, put_mid}
use lib.ListN.{length, drop}
use Rattle.rules.specs.Answers.{lay, room_test}
use Rattle.rules.specs.Results.{room_reply}
use Rattle.rules.specs.declared.refusal.Refusal.{Refusal}
use Rattle.rules.proofs.Results.{room_short, room_there}
use Rattle.reading_laws.proofs.Lays.{lay-lent}
use Rattle.tables.specs.Writes.{made, wrote, wrote_text}

module _ (out : List ℕ) (place : ℕ) (txt : List ℕ) (n : ℕ) (long : length txt ≡ n) where
  -- there is no room for it
  pub text_short : {r : Refusal} → room_reply (length out) place n ≡ Err r → made (Err r) out ≡ wrote_text out place txt
  unfolding wrote_text wrote room_test
  text_short e =
      let w = room_short (length out) place n e in
      rw (w.1, lt-ltb (length out) (place + length txt) (omega (arith, w.0)))

  -- there is
  pub text-laid : place + n ≤ length out → wrote_text out place txt ≡ made (Ok n) (lay out place txt)
  unfolding wrote_text wrote room_test
  text-laid room = rw (← long, le-ltb (length out) (place + length txt) (omega arith))

  -- and it was written through the lent tail
  pub text-written : {u : Unit {0}} → room_reply (length out) place n ≡ Ok u → (tail : List ℕ) → tail ≡ txt ++ drop n (mid_of place (length out - place) out)
      → made (Ok n) (put_mid place (length out - place) out tail) ≡ wrote_text out place txt
  text-written e tail f =
      let room = room_there (length out) place n e in
      ap (made (Ok n)) (lay-lent out place n txt tail long (omega (arith, room)) f) ∙ sym (text-laid room)
