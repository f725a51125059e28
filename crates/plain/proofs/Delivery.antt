-- The end of an operation, both ways. Assumes nothing.
use Prim.Native.Nat.{ℕ, ◌≤◌, ◌<◌}
use native.Mathlib.Omega.{arith}
use mathlib.Core.Path.{◌≡◌, sym, ap, ◌∙◌}
use mathlib.Core.Bool.{false}
use mathlib.Core.List.{List, ◌++◌}
use lib.ListN.{length, drop}
use Rattle.definitions.specs.Bytes.{Bytes}
use Rattle.definitions.specs.Value.{Value}
use Rattle.definitions.specs.Plain.{plain}
use Rattle.definitions.specs.Operations.{Done, TextOut, to_write, output_short, written, deliver}
use Rattle.laws.specs.Tests.{lt-ltb, le-ltb}
use Rattle.plain.specs.Table.{BoundedNumbers, SomeValueStands, Holds, Held, Writable, Front, WritesFront}
use Rattle.plain.specs.TableLaws.{writable_front}

-- what is to be written
abbrev text : Value → ℕ → TextOut
text v steps = to_write (plain v) steps

module _ (out : Bytes) (v : Value) (steps : ℕ) {n : ℕ} where
  pub delivered_short
      : n ≡ length (plain v) → length out < n
      → deliver out (text v steps) ≡ record { answer = output_short n; output = out }
  unfolding deliver
  delivered_short e h =
      rw (lt-ltb (length out) (length (plain v)) (omega (arith, e)), deliver)
      (ap (λ (k : ℕ). record { answer = output_short k; output = out }) (sym e))

  pub delivered
      : {out' : Bytes} → length (plain v) ≤ length out → Front out out' (plain v) n
      → deliver out (text v steps) ≡ record { answer = written n steps false; output = out' }
  unfolding deliver
  delivered {out'} h f =
      rw (le-ltb (length out) (length (plain v)) h, deliver)
      (ap (λ (k : ℕ). record { answer = written k steps false; output = plain v ++ drop k out }) (sym f.size)
      ∙ ap (λ (o : Bytes). record { answer = written n steps false; output = o }) (sym f.bytes))

-- ---- for every value that stands at the first row

-- the length that was measured
abbrev Measured : List ℕ → ℕ → Type 0
Measured nodes n = (p : List ℕ) (v : Value) → SomeValueStands nodes p 0 v → BoundedNumbers v → n ≡ length (plain v)

module _ {nodes pool : List ℕ} (out : Bytes) (steps : ℕ) {n : ℕ} (m : Measured nodes n) where
  module _ (h : length out < n) (v : Value) (s : Holds nodes pool 0 v) where
    short : deliver out (text v steps) ≡ record { answer = output_short n; output = out }
    short = delivered_short out v steps (m s.used v s.stands s.bounded) h

    pub short_answered
        : output_short n ≡ (deliver out (text v steps)).answer
    short_answered = sym (ap (λ (d : Done). d.answer) short)

    pub short_kept : out ≡ (deliver out (text v steps)).output
    short_kept = sym (ap (λ (d : Done). d.output) short)

  pub delivers_writable : n ≤ length out → Held nodes pool → Writable nodes pool 0 out 0
  delivers_writable h s =
      writable_front out s.holds (omega (arith, m s.holds.used s.value s.holds.stands s.holds.bounded))

  module _ {out' : Bytes} {r : ℕ} (h : n ≤ length out) (w : WritesFront nodes pool out out' r) (v : Value) (s : Holds nodes pool 0 v) where
    room : deliver out (text v steps) ≡ record { answer = written r steps false; output = out' }
    room = delivered out v steps (omega (arith, m s.used v s.stands s.bounded)) (w v s)

    pub room_answered
        : written r steps false ≡ (deliver out (text v steps)).answer
    room_answered = sym (ap (λ (d : Done). d.answer) room)

    pub room_written : out' ≡ (deliver out (text v steps)).output
    room_written = sym (ap (λ (d : Done). d.output) room)
