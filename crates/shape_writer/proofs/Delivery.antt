-- Judging refusal 11, and the end of an operation that writes a shape. Assumes nothing.
use Prim.Native.Nat.{ℕ, ◌+◌, ◌/◌, ◌≤◌, ◌<◌}
use native.Mathlib.Omega.{arith}
use mathlib.Core.Path.{◌≡◌, refl, sym, ap, subst, ◌∙◌}
use mathlib.Core.Bool.{Bool, true, false, ◌||◌}
use mathlib.Core.List.{List, [], ◌∷◌, ◌++◌}
use Rattle.std.specs.Prelude.{Option, Some, None}
use borrow.Author.Tests.{lt-ltb, le-ltb}
use lib.Dec.{ltb}
use lib.ListN.{length, drop, length-append}
use Rattle.definitions.specs.declared.Limits.{Limits}
use Rattle.definitions.specs.declared.Answer.{Answer}
use Rattle.definitions.specs.Bytes.{Bytes, bytes}
use Rattle.definitions.specs.Shape.{Shape, forms, levels}
use Rattle.definitions.specs.ShapeText.{write, write_shape}
use Rattle.definitions.specs.Operations.{Judged, passed, stopped, TextOut, to_write, Done, refusal, output_short, written, shape_out, deliver, finish}
use Rattle.text.specs.Writes.{Writes}
use Rattle.text.specs.WritesLaws.{writes_then}
use Rattle.shapes.specs.Shapes.{size_at}
use Rattle.shapes.specs.Held.{HoldsShape}
use Rattle.shape_writer.specs.Writing.{LengthOfForm, WritesForm, TellsDeeper, Deliverable, Measures, DeliversAnswer, DeliversOutput}
use Rattle.shape_writer.proofs.Forms.{holds_size}

-- ---- refusal 11

-- what shape-out comes to as its test falls out
unfoldable picked : Shape → Bool → Judged TextOut
picked s t = elim t [ true ↦ stopped (refusal 11 0 0) | false ↦ passed (to_write (write_shape s) 0) ]

shape_picked
    : (l : Limits) (s : Shape)
    → shape_out l s ≡ picked s (ltb l.values (forms s) || ltb l.nesting (levels s) || ltb l.bytes (length (write_shape s)))
unfolding shape_out picked
shape_picked l s = refl

judged
    : (l : Limits) (s : Shape) {a b c : Bool} → ltb l.values (forms s) ≡ a → ltb l.nesting (levels s) ≡ b
    → ltb l.bytes (length (write_shape s)) ≡ c
    → shape_out l s ≡ picked s (a || b || c)
judged l s {a} {b} e f g =
    shape_picked l s
    ∙ ap (λ (x : Bool). picked s (x || ltb l.nesting (levels s) || ltb l.bytes (length (write_shape s)))) e
    ∙ ap (λ (x : Bool). picked s (a || x || ltb l.bytes (length (write_shape s)))) f
    ∙ ap (λ (x : Bool). picked s (a || b || x)) g

or-true : (a : Bool) → a || true ≡ true
or-true true = refl
or-true false = refl

length_shape : (s : Shape) → length (write_shape s) ≡ length (write s 0) + 1
unfolding write_shape bytes
length_shape s = length-append (write s 0) (0x0A ∷ [])

shape_bytes : (s : Shape) → write s 0 ++ (0x0A ∷ []) ≡ write_shape s
unfolding write_shape bytes
shape_bytes s = refl

module _ {shapes pool : List ℕ} (l : Limits) where
  forms_told : {n : ℕ} → n ≡ size_at shapes 0 → (s : Shape) → HoldsShape shapes pool 0 s → n / 2 ≡ forms s
  forms_told e s h = omega (arith, e, holds_size h)

  pub over_forms : {n : ℕ} → n ≡ size_at shapes 0 → l.values < n / 2 → Measures shapes pool l None
  unfolding picked
  over_forms e t s h =
      judged l s (lt-ltb l.values (forms s) (omega (arith, forms_told e s h, t))) refl refl

  pub over_levels : {b : Bool} → TellsDeeper shapes 0 l.nesting b → b ≡ true → Measures shapes pool l None
  unfolding picked
  over_levels d e s h =
      judged l s refl (sym (d h.used h.name s h.stands) ∙ e) refl
      ∙ ap (λ (t : Bool). picked s (t || ltb l.bytes (length (write_shape s)))) (or-true (ltb l.values (forms s)))

  pub over_bytes : {n : ℕ} → LengthOfForm shapes pool 0 0 n → l.bytes < n + 1 → Measures shapes pool l None
  unfolding picked
  over_bytes m t s h =
      judged l s refl refl (lt-ltb l.bytes (length (write_shape s)) (omega (arith, length_shape s, m s h, t)))
      ∙ ap (picked s) (or-true (ltb l.values (forms s) || ltb l.nesting (levels s)))

  pub fits
      : {k n : ℕ} {b : Bool} → k ≡ size_at shapes 0 → k / 2 ≤ l.values → TellsDeeper shapes 0 l.nesting b → b ≡ false
      → LengthOfForm shapes pool 0 0 n
      → n + 1 ≤ l.bytes
      → Measures shapes pool l (Some (n + 1))
  unfolding picked
  fits e f d g m t s h = (
    judged l s
        (le-ltb l.values (forms s) (omega (arith, forms_told e s h, f)))
        (sym (d h.used h.name s h.stands) ∙ g)
        (le-ltb l.bytes (length (write_shape s)) (omega (arith, length_shape s, m s h, t))),
    omega (arith, length_shape s, m s h),
  )

-- ---- the end of an operation

ends
    : (shapes pool : List ℕ) (l : Limits) (out : Bytes) {r : Answer} {out' : Bytes}
    → ((s : Shape) → HoldsShape shapes pool 0 s → finish out (shape_out l s) ≡ record { answer = r; output = out' })
    → DeliversAnswer shapes pool l out r × DeliversOutput shapes pool l out out'
ends shapes pool l out f = (
  λ s h. sym (ap (λ (d : Done). d.answer) (f s h)),
  λ s h. sym (ap (λ (d : Done). d.output) (f s h)),
)

module _ (shapes pool : List ℕ) (l : Limits) (out : Bytes) {m : Option ℕ} (j : Measures shapes pool l m) where
  pub delivers_over
      : {r : Answer} → m ≡ None → r ≡ refusal 11 0 0
      → DeliversAnswer shapes pool l out r × DeliversOutput shapes pool l out out
  unfolding finish
  delivers_over {r} e f =
      ends shapes pool l out
      (λ s h.
      ap (finish out) (subst (Measures shapes pool l) e j s h)
      ∙ ap (λ (a : Answer). record { answer = a; output = out }) (sym f))

  fitted
      : {n : ℕ} → m ≡ Some n → (s : Shape) → HoldsShape shapes pool 0 s
      → (shape_out l s ≡ passed (to_write (write_shape s) 0)) × (n ≡ length (write_shape s))
  fitted e s h = subst (Measures shapes pool l) e j s h

  -- the length told is that of the text and its line feed
  pub fitting : (d : Deliverable shapes pool) {n : ℕ} → m ≡ Some n → n ≡ length (write d.shape 0) + 1
  fitting d e = (fitted e d.shape d.holds).1 ∙ length_shape d.shape

  pub delivers_short
      : {n : ℕ} {r : Answer} → m ≡ Some n → length out < n
      → r ≡ output_short n
      → DeliversAnswer shapes pool l out r × DeliversOutput shapes pool l out out
  unfolding finish deliver
  delivers_short {n} e t f =
      ends shapes pool l out
      (λ s h.
      ap (finish out) (fitted e s h).0
      ∙ rw (lt-ltb (length out) (length (write_shape s)) (omega (arith, t, (fitted e s h).1)), deliver)
      (ap (λ (k : ℕ). record { answer = output_short k; output = out }) (sym (fitted e s h).1)
      ∙ ap (λ (a : Answer). record { answer = a; output = out }) (sym f)))

  pub delivers_written
      : {n k i : ℕ} {r : Answer} {o₁ o₂ : Bytes} → m ≡ Some n → n ≤ length out
      → WritesForm shapes pool 0 0 out o₁ 0 k
      → Writes o₁ o₂ k (0x0A ∷ []) i
      → r ≡ written n 0 false
      → DeliversAnswer shapes pool l out r × DeliversOutput shapes pool l out o₂
  unfolding finish deliver
  delivers_written {n} {k} {i} {o₂ = o₂} e t p q f =
      ends shapes pool l out
      (λ s h.
      ap (finish out) (fitted e s h).0
      ∙ rw (le-ltb (length out) (length (write_shape s)) (omega (arith, t, (fitted e s h).1)), deliver)
      (ap (λ (a : ℕ). record { answer = written a 0 false; output = write_shape s ++ drop a out }) (sym (fitted e s h).1)
      ∙ ap (λ (o : Bytes). record { answer = written n 0 false; output = o }) (sym (front s h))
      ∙ ap (λ (a : Answer). record { answer = a; output = o₂ }) (sym f)))
    where
      both : (s : Shape) → HoldsShape shapes pool 0 s → Writes out o₂ 0 (write s 0 ++ (0x0A ∷ [])) i
      both s h = writes_then (omega arith) (p s h) q

      end : (s : Shape) → HoldsShape shapes pool 0 s → i ≡ n
      end s h = omega (arith, (both s h).end, length-append (write s 0) (0x0A ∷ []), length_shape s, (fitted e s h).1)

      front : (s : Shape) → HoldsShape shapes pool 0 s → o₂ ≡ write_shape s ++ drop n out
      front s h =
          (both s h).bytes
          ∙ ap (λ (a : ℕ). write s 0 ++ (0x0A ∷ []) ++ drop a out) (end s h)
          ∙ ap (λ (b : Bytes). b ++ drop n out) (shape_bytes s)
