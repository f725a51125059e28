-- The limits that the paper's table of causes names, as a set that is handed to each operation, and the ranges of request Q-6.
-- Assumes nothing.
use Rattle.std.specs.Prelude.{ℕ, Bool, ◌&&◌, ◌||◌, leb, ltb}
use Rattle.definitions.specs.declared.Limits.{Limits}

-- "a set of four numbers", in the paper's order
abbrev pub set_of : (bytes values nesting steps : ℕ) → Limits
set_of b v n s = record { bytes = b; values = v; nesting = n; steps = s }

-- the paper's numbers, the largest set: 16,384 bytes, 512 values or forms, nesting 32, 65,536 steps
unfoldable pub standard : Limits
standard = set_of 16384 512 32 65536

-- the smallest set in range
unfoldable pub smallest : Limits
smallest = set_of 1024 16 4 256

-- a number in a range, both ends in
abbrev pub within : (least most n : ℕ) → Bool
within a b n = leb a n && leb n b

-- "text bytes 1,024 to 16,384, values and forms 16 to 512, nesting 4 to 32, steps 256 to 65,536"
unfoldable pub in_range : Limits → Bool
in_range l =
    within 1024 16384 l.bytes && within 16 512 l.values && within 4 32 l.nesting && within 256 65536 l.steps

-- refusals 6, 8, 11 and 14: so many values or forms, or so deep a nesting, are too much
abbrev pub over : Limits → (count depth : ℕ) → Bool
over l n d = ltb l.values n || ltb l.nesting d
