-- A coefficient's digits by groups of eight, each group as the bytes of a word, its last digit lowest. Assumes nothing.
use Rattle.std.specs.Prelude.{ℕ, zero, suc, ◌+◌, ◌-◌, ◌*◌, ◌/◌, ◌%◌, ◌^◌, min, ◌≡◌}
use Rattle.number.specs.declared.groups.Groups.{Groups}

-- the lowest m bytes of w are the last m digits of n
abbrev pub Lows : ℕ → ℕ → ℕ → Type 0
Lows zero w n = Unit {0}
Lows (suc m) w n = (w % 256 ≡ 48 + n % 10) × Lows m (w / 256) (n / 10)

-- the groups of c
pub record GroupsOf (c : ℕ) (g : Groups) : Type 0 where
  pub low : Lows 8 g.low c
  pub middle : Lows 8 g.middle (c / 10 ^ 8)
  pub high : Lows 8 g.high (c / 10 ^ 16)

-- w has the digits of c from place k on, counted from the last: eight of them, or as many as the groups have from there
pub record LowsFrom (k w c : ℕ) : Type 0 where
  pub lows : Lows (min 8 (24 - k)) w (c / 10 ^ k)

-- ---- on the way to eight digits

-- w holds x as two numbers below 10^4
pub record Halves (x w : ℕ) : Type 0 where
  pub parts : w ≡ x / 10 ^ 4 * 2 ^ 32 + x % 10 ^ 4

-- w holds x as four numbers below 10^2
pub record Quarters (x w : ℕ) : Type 0 where
  pub parts
      : w
      ≡ (x / 10 ^ 4 / 10 ^ 2 * 2 ^ 16 + x / 10 ^ 4 % 10 ^ 2) * 2 ^ 32 + (x % 10 ^ 4 / 10 ^ 2 * 2 ^ 16 + x % 10 ^ 4 % 10 ^ 2)
