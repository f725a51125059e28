-- Answers as words, made and taken apart. Assumes nothing.
use Prim.Native.Nat.{ℕ, ◌+◌, ◌*◌, ◌/◌, ◌%◌, ◌^◌, ◌≤◌, ◌<◌}
use mathlib.Core.Path.{◌≡◌, ap, ◌∙◌}
use native.Mathlib.Omega.{arith}
use borrow.Author.Tests.{lt-ltb, le-ltb}
use Rattle.std.specs.Prelude.{Ok, Err}
use Rattle.reading.specs.declared.Cause.{Cause}
use Rattle.reading.specs.declared.Cause.TheVariants as cause
use Rattle.reading.specs.declared.Cursor.{Cursor}
use Rattle.reading.specs.Refusals.{number_of}
use Rattle.json_reader.specs.JsonParts.{answer_of, Packs, Caused, cause_of}

pub opens_done : (r : ℕ) → r < 2 ^ 63 → answer_of r ≡ Ok (record { at = r % 2 ^ 17; begun = r / 2 ^ 17 % 2 ^ 16; top = r / 2 ^ 33 })
unfolding answer_of
opens_done r h = rw (lt-ltb r (2 ^ 63) h, answer_of)

pub opens_refused
    : (r : ℕ) → 2 ^ 63 ≤ r → answer_of r ≡ Err (record { cause = cause_of (r / 2 ^ 32 % 2 ^ 31); place = r % 2 ^ 32 })
unfolding answer_of
opens_refused r h = rw (le-ltb r (2 ^ 63) h, answer_of)

pub done_word : (to : Cursor) → Packs to → answer_of (to.at + 2 ^ 17 * to.begun + 2 ^ 33 * to.top) ≡ Ok to
done_word to p =
    let r = to.at + 2 ^ 17 * to.begun + 2 ^ 33 * to.top in
    let e : r % 2 ^ 17 ≡ to.at = omega arith in
    let above : r / 2 ^ 17 ≡ to.begun + 2 ^ 16 * to.top = omega arith in
    let f : r / 2 ^ 17 % 2 ^ 16 ≡ to.begun = ap (λ (n : ℕ). n % 2 ^ 16) above ∙ omega arith in
    let g : r / 2 ^ 33 ≡ to.top = omega arith in
    opens_done r (omega arith) ∙ rw (e, f, g)

pub number_small : (q : Cause) → number_of q < 32
number_small cause.TooShort = omega arith
number_small cause.TextTooLong = omega arith
number_small cause.JsonSyntax = omega arith
number_small cause.NumberLimit = omega arith
number_small cause.DuplicateName = omega arith
number_small cause.ValueLimit = omega arith
number_small cause.FormSyntax = omega arith
number_small cause.FormLimit = omega arith
number_small cause.UnwantedKind = omega arith
number_small cause.UnlistedName = omega arith
number_small cause.ShapeLimit = omega arith
number_small cause.Stuck = omega arith
number_small cause.StepLimit = omega arith
number_small cause.ResultLimit = omega arith
number_small cause.OutputTooShort = omega arith
number_small cause.LimitOutOfRange = omega arith

pub refused_word
    : (q : Cause) (place : ℕ) → Caused q → place < 2 ^ 32
    → answer_of (place + 2 ^ 32 * number_of q + 2 ^ 63) ≡ Err (record { cause = q; place = place })
refused_word q place e h =
    let small = number_small q in
    let r = place + 2 ^ 32 * number_of q + 2 ^ 63 in
    let f : r / 2 ^ 32 % 2 ^ 31 ≡ number_of q = omega arith in
    let g : r % 2 ^ 32 ≡ place = omega arith in
    opens_refused r (omega arith) ∙ rw (f, g, e)
