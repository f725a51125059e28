-- A name of the pool, and what stands around it before a member's shape. Assumes nothing.
use Prim.Native.Nat.{ℕ, suc, ◌+◌, ◌/◌, ◌%◌, ◌≤◌}
use native.Mathlib.Omega.{arith}
use mathlib.Core.Path.{◌≡◌, sym, ap, ap₂, subst₂, ◌∙◌}
use mathlib.Core.List.{List, ◌++◌}
use lib.ListN.{length, length-append}
use Rattle.definitions.specs.Bytes.{Bytes, bytes}
use Rattle.definitions.specs.Plain.{plain_text}
use Rattle.definitions.specs.ShapeText.{new_line}
use Rattle.pool.specs.Pool.{words, text_in}
use Rattle.plain.specs.Parts.{HoldsText}
use Rattle.plain.specs.TableLaws.{found}
use Rattle.shape_writer.specs.Layout.{label_text}
use Rattle.shape_writer.proofs.Lines.{length_new_line}

module _ {pool : List ℕ} {k : ℕ} {t : Bytes} {w n : ℕ} (h : HoldsText pool k t) (e : w ≡ k % 65536) (f : n ≡ k / 65536) where
  pub name_within : w + words n ≤ length pool
  name_within = subst₂ (λ (x y : ℕ). x + words y ≤ length pool) (sym e) (sym f) (found h.pooled h.refers).within

  pub name_plain : plain_text (text_in pool w n) ≡ plain_text t
  name_plain = ap₂ (λ (x y : ℕ). plain_text (text_in pool x y)) e f ∙ ap plain_text (found h.pooled h.refers).text

pub length_label : (n : Bytes) (around : ℕ) → length (label_text n around) ≡ 1 + around + 8 + length (plain_text n) + (2 + around)
unfolding label_text bytes
length_label n around =
    length-append (new_line around ++ bytes "(member " ++ plain_text n) (new_line (suc around))
    ∙ omega (
      arith,
      length-append (new_line around ++ bytes "(member ") (plain_text n),
      length-append (new_line around) (bytes "(member "),
      length_new_line around,
      length_new_line (suc around),
    )
