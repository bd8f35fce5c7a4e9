-- Numbers and their bounds.
use Rattle.std.specs.Prelude.{ℕ}

-- cores m
abbrev pub cores_min : ℕ
cores_min = 2

abbrev pub cores_max : ℕ
cores_max = 32

-- tasks n, numbered from 1 in table order
abbrev pub tasks_min : ℕ
tasks_min = 1

abbrev pub tasks_max : ℕ
tasks_max = 64

-- period T, and execution C from 1 to T
abbrev pub period_max : ℕ
period_max = 65_535

-- repeat length H
abbrev pub repeat_max : ℕ
repeat_max = 1_000_000_000

-- clock, in slots from 0
abbrev pub clock_max : ℕ
clock_max = 1_000_000_000

-- what the program reads at most, in bytes, and runs at most, in slots
abbrev pub input_max : ℕ
input_max = 2_048

abbrev pub slots_max : ℕ
slots_max = 4_096
