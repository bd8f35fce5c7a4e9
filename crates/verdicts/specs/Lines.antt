-- The line of a verdict, from its parts.
use Rattle.std.specs.Prelude.{ℕ, List, [], ◌∷◌}
use Rattle.rules.specs.Frames as Frames
use Rattle.rules.specs.Frames.{frame}
use Rattle.rules.specs.Verdicts.{verdict_byte}
use Rattle.rules.specs.declared.verdict.Verdict.{Verdict}

abbrev pub verdict_frame : Verdict → ℕ → ℕ → List ℕ
verdict_frame v heavy h = frame Frames.verdict (verdict_byte v ∷ heavy ∷ h ∷ [])
