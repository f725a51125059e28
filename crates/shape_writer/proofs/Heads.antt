-- How a form begins: the words of its kinds. Assumes nothing.
use Prim.Native.Nat.{ℕ, ◌+◌, ◌≤◌}
use native.Mathlib.Omega.{arith}
use mathlib.Core.Path.{◌≡◌, refl, sym, ap, ap₂, ◌∙◌}
use mathlib.Core.Bool.{Bool, true, false, true≢false}
use mathlib.Core.List.{[], ◌++◌, append_assoc, append-nil}
use lib.ListN.{length, length-append}
use Rattle.definitions.specs.Bytes.{Bytes, bytes}
use Rattle.definitions.specs.Shape.{Kind, all_kinds, Shape, has}
use Rattle.definitions.specs.ShapeText.{kind_name, write_kinds}
use Rattle.text.specs.Writes.{Writes}
use Rattle.text.specs.WritesLaws.{writes_then, writes_as}
use Rattle.shapes.specs.Shapes.{kind_bit, kind_bits, has_bit}
use Rattle.shapes.specs.ShapesLaws.{has_kind}
use Rattle.shape_writer.specs.Layout.{word_of, head_text}
use Rattle.shape_writer.specs.Writing.{WritesWord, LengthOfWord}

pub word_there : (b : Bool) (w : Bytes) → b ≡ true → w ≡ word_of b w
unfolding word_of
word_there true w e = refl
word_there false w e = absurd (true≢false (sym e))

pub word_gone : (b : Bool) (w : Bytes) → b ≡ false → [] ≡ word_of b w
unfolding word_of
word_gone true w e = absurd (true≢false e)
word_gone false w e = refl

pub length_head
    : (kinds : ℕ)
    → length (head_text kinds)
    ≡ 6
    + length (word_of (has_bit kinds 1) (bytes " null"))
    + length (word_of (has_bit kinds 2) (bytes " bool"))
    + length (word_of (has_bit kinds 4) (bytes " int"))
    + length (word_of (has_bit kinds 8) (bytes " dec"))
    + length (word_of (has_bit kinds 16) (bytes " text"))
    + length (word_of (has_bit kinds 32) (bytes " list"))
    + length (word_of (has_bit kinds 64) (bytes " rec"))
unfolding head_text bytes
length_head kinds = simp length-append (omega arith)

-- the word of a kind by its number
pub word_to
    : {o o₁ : Bytes} {at r kinds k : ℕ} {w : Bytes} (n : ℕ) (v : Bytes) → WritesWord kinds k w o o₁ at r → k ≡ n
    → w ≡ v
    → Writes o o₁ at (word_of (has_bit kinds n) v) r
word_to {kinds = kinds} n v p e f =
    writes_as (ap₂ (λ (i : ℕ) (s : Bytes). word_of (has_bit kinds i) s) e f) p.written

-- its length
pub length_to
    : {kinds k n r : ℕ} (i : ℕ) (v : Bytes) → LengthOfWord kinds k n r → k ≡ i → length v ≡ n
    → r ≡ length (word_of (has_bit kinds i) v)
length_to {kinds} i v l e f = l.measured v f ∙ ap (λ (j : ℕ). length (word_of (has_bit kinds j) v)) e

-- a head written word by word
pub writes_head
    : (kinds : ℕ) {o o₁ o₂ o₃ o₄ o₅ o₆ o₇ o₈ : Bytes} {at j₁ j₂ j₃ j₄ j₅ j₆ j₇ j₈ : ℕ} → at ≤ length o
    → Writes o o₁ at (bytes "(shape") j₁
    → Writes o₁ o₂ j₁ (word_of (has_bit kinds 1) (bytes " null")) j₂
    → Writes o₂ o₃ j₂ (word_of (has_bit kinds 2) (bytes " bool")) j₃
    → Writes o₃ o₄ j₃ (word_of (has_bit kinds 4) (bytes " int")) j₄
    → Writes o₄ o₅ j₄ (word_of (has_bit kinds 8) (bytes " dec")) j₅
    → Writes o₅ o₆ j₅ (word_of (has_bit kinds 16) (bytes " text")) j₆
    → Writes o₆ o₇ j₆ (word_of (has_bit kinds 32) (bytes " list")) j₇
    → Writes o₇ o₈ j₇ (word_of (has_bit kinds 64) (bytes " rec")) j₈
    → Writes o o₈ at (head_text kinds) j₈
unfolding head_text
writes_head kinds l a b c d e f g h =
    writes_then l (writes_then l (writes_then l (writes_then l (writes_then l (writes_then l (writes_then l a b) c) d) e) f) g) h

-- the words of a shape's kinds
word_kind
    : (s : Shape) (k : Kind)
    → word_of (has_bit (kind_bits s) (kind_bit k)) (bytes " " ++ kind_name k) ≡ elim (has k s) [ true ↦ bytes " " ++ kind_name k | false ↦ [] ]
unfolding word_of
word_kind s k = go (has_bit (kind_bits s) (kind_bit k)) (has k s) (has_kind k s)
  where
    go : (b c : Bool) → b ≡ c → word_of b (bytes " " ++ kind_name k) ≡ elim c [ true ↦ bytes " " ++ kind_name k | false ↦ [] ]
    go true true e = refl
    go false false e = refl
    go true false e = absurd (true≢false e)
    go false true e = absurd (true≢false (sym e))

regroup
    : (x : Bytes) {a b c d e f g a' b' c' d' e' f' g' : Bytes} → a ≡ a' → b ≡ b' → c ≡ c' → d ≡ d' → e ≡ e' → f ≡ f' → g ≡ g'
    → x ++ a ++ b ++ c ++ d ++ e ++ f ++ g ≡ x ++ (a' ++ (b' ++ (c' ++ (d' ++ (e' ++ (f' ++ (g' ++ [])))))))
regroup x p q r s t u v = rw (p, q, r, s, t, u, v) (simp (append_assoc, append-nil))

pub head_of_kinds : (s : Shape) → head_text (kind_bits s) ≡ bytes "(shape" ++ write_kinds s all_kinds
unfolding head_text write_kinds all_kinds kind_bit kind_name bytes
head_of_kinds s =
    regroup
    (bytes "(shape")
    (word_kind s Kind.null)
    (word_kind s Kind.bool)
    (word_kind s Kind.int)
    (word_kind s Kind.dec)
    (word_kind s Kind.text)
    (word_kind s Kind.list)
    (word_kind s Kind.rec)
