-- N of `it`: the binding that a word reaches. Assumes nothing.
use Prim.Native.Nat.{ℕ, ◌-◌, ◌≤◌, ◌<◌}
use mathlib.Core.Path.{◌≡◌, refl, sym, ap, ◌∙◌}
use mathlib.Core.Bool.{Bool, true, false, not, ◌&&◌}
use mathlib.Core.List.{[]}
use mathlib.Core.Option.{Option, none, some}
use native.Mathlib.Omega.{arith}
use native.Mathlib.Nat.{add-zero}
use borrow.Author.Tests.{lt-ltb, le-ltb, eq-eqb, ne_eqb}
use lib.Dec.{ltb, eqb}
use lib.ListN.{drop, get_or}
use lib.Seq.{get_or-take, get_or-drop}
use Rattle.definitions.specs.Bytes.{Bytes}
use Rattle.definitions.specs.Number.{Number, Numeral, number_of}
use Rattle.definitions.specs.Reader.{word_number, index_fits}
use Rattle.laws.specs.FormGrammar.{NumberWord, number_word}
use Rattle.laws.specs.Rfc8259 as Rfc
use Rattle.laws.proofs.ReaderBacks.{number_read}
use Rattle.number.specs.NumberWrite.{as_number}
use Rattle.number.specs.NumberWord.{WordMeans}
use Rattle.forms.specs.Forms.{slot}
use Rattle.tokens.specs.TokenRead.{word_in}
use Rattle.form_reader.specs.FormParts.{index_of, SlotFound}

-- ---- the minus of a number

-- a number has a minus where it is written
int_digit : {w u : Bytes} {c : ℕ} → Rfc.int w c u → get_or w 0 0 ≡ 0x2D → ⊥
int_digit Rfc.int_zero e = omega arith
int_digit (Rfc.int_digits d r) e = omega (arith, d)

minus_number : {w : Bytes} {d : Numeral} → Rfc.number w d [] → get_or w 0 0 ≡ 0x2D → d.negative ≡ true
minus_number (Rfc.numeral Rfc.no_minus i f x) e = absurd (int_digit i e)
minus_number (Rfc.numeral Rfc.has_minus i f x) e = refl

no_minus_number : {w : Bytes} {d : Numeral} → Rfc.number w d [] → (get_or w 0 0 ≡ 0x2D → ⊥) → d.negative ≡ false
no_minus_number (Rfc.numeral Rfc.no_minus i f x) h = refl
no_minus_number (Rfc.numeral Rfc.has_minus i f x) h = absurd (h refl)

number_of_word : {w : Bytes} {d : Numeral} → NumberWord w d → Rfc.number w d []
number_of_word (number_word n b) = n

-- the first byte of a word
pub first_byte : (text : Bytes) (at end : ℕ) → at < end → get_or (word_in text at end) 0 0 ≡ get_or text at 0
unfolding word_in
first_byte text at end h =
    get_or-take (end - at) (drop at text) 0 0 (omega arith) ∙ get_or-drop at text 0 0 ∙ ap (λ (i : ℕ). get_or text i 0) (add-zero at)

-- ---- the index

module _ (bound : ℕ) (w : Bytes) where
  of_numeral : Option Numeral → Option ℕ
  of_numeral none = none
  of_numeral (some d) = elim (index_fits bound d) [ true ↦ some d.coefficient | false ↦ none ]

  index_is : index_of bound w ≡ of_numeral (word_number w)
  unfolding index_of of_numeral
  index_is = refl

  -- a word that is no number
  pub no_number : word_number w ≡ none → index_of bound w ≡ none
  unfolding of_numeral
  no_number e = index_is ∙ ap of_numeral e

  misfits : {d : Numeral} → word_number w ≡ some d → index_fits bound d ≡ false → index_of bound w ≡ none
  unfolding of_numeral
  misfits e f = index_is ∙ ap of_numeral e ∙ rw (f, of_numeral)

  -- one with a minus
  pub with_minus : get_or w 0 0 ≡ 0x2D → index_of bound w ≡ none
  unfolding index_fits
  with_minus e = go (word_number w) refl
    where
      go : (o : Option Numeral) → word_number w ≡ o → index_of bound w ≡ none
      go none f = no_number f
      go (some d) f = misfits f (rw (minus_number (number_of_word (number_read w d f)) e))

  module _ {s : Bool} {c m : ℕ} (x : WordMeans w (as_number s c m)) where
    means_scale : m ≡ x.numeral.scale
    unfolding number_of
    means_scale = ap (λ (n : Number). n.scale) x.meaning

    means_coefficient : c ≡ x.numeral.coefficient
    unfolding number_of
    means_coefficient = ap (λ (n : Number). n.coefficient) x.meaning

    -- one with a fraction
    pub with_fraction : (m ≡ 0 → ⊥) → index_of bound w ≡ none
    unfolding index_fits
    with_fraction h =
        misfits x.spelled
        (ap (λ (b : Bool). not x.numeral.negative && b && ltb x.numeral.coefficient bound) (ne_eqb x.numeral.scale 0 (λ e. h (means_scale ∙ e)))
        ∙ pick (not x.numeral.negative))
      where
        pick : (b : Bool) → b && false && ltb x.numeral.coefficient bound ≡ false
        pick true = refl
        pick false = refl

    -- one that reaches past the document
    pub past_document : bound ≤ c → index_of bound w ≡ none
    unfolding index_fits
    past_document h =
        misfits x.spelled
        (ap (λ (b : Bool). not x.numeral.negative && eqb x.numeral.scale 0 && b)
        (le-ltb x.numeral.coefficient bound (omega (arith, means_coefficient)))
        ∙ pick (not x.numeral.negative) (eqb x.numeral.scale 0))
      where
        pick : (a b : Bool) → a && b && false ≡ false
        pick true true = refl
        pick true false = refl
        pick false true = refl
        pick false false = refl

    -- any other
    pub reaches : (get_or w 0 0 ≡ 0x2D → ⊥) → m ≡ 0 → c < bound → SlotFound bound w (bound - 1 - c)
    unfolding index_fits slot of_numeral
    reaches g h l =
        let d = x.numeral in
        let fits : index_fits bound d ≡ true =
        rw (no_minus_number (number_of_word (number_read w d x.spelled)) g)
        (rw (eq-eqb d.scale 0 (sym means_scale ∙ h)) (lt-ltb d.coefficient bound (omega (arith, means_coefficient))))
        in
        record {
          index = d.coefficient;
          spelled = index_is ∙ ap of_numeral x.spelled ∙ rw (fits, of_numeral);
          slotted = ap (λ (n : ℕ). bound - 1 - n) means_coefficient;
          bounded = omega (arith, means_coefficient);
        }
