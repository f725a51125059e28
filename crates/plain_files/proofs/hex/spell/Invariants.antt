use Rattle.std.proofs.Common.{◌*◌, ◌≡◌, take}
use Rattle.plain_files.specs.Lines.{hex_of}
use Rattle.plain_files.proofs.hex.spell.Given as goal

abbrev pub invariant-loop-i : goal.invariant-loop-i
invariant-loop-i l = take (2 * l.i) l.out ≡ hex_of (take l.i l.bytes)
