-- Answers for a number that is a whole word. Assumes nothing.
use mathlib.Core.Path.{◌≡◌, refl, sym, ap, ◌∙◌}
use mathlib.Core.Bool.{Bool, true, false}
use mathlib.Core.List.{[], ◌∷◌}
use mathlib.Core.Option.{Option, none, some}
use native.Mathlib.Omega.{arith}
use lib.ListN.{length, drop, length-drop}
use Rattle.definitions.specs.Bytes.{Bytes}
use Rattle.definitions.specs.Number.{Numeral, no_digits, beyond, begin, complete}
use Rattle.definitions.specs.Reader.{word_number}
use Rattle.number.specs.NumberRun.{Run, longest}
use Rattle.number.specs.NumberRead.{ReadsNumber, number_in}
use Rattle.number.specs.NumberLaws.{to_the_end, spelled_longest, read_bounded}
use Rattle.number.specs.NumberWord.{WordMeans}
use Rattle.number.specs.declared.NumberRead.{NumberRead}

-- within refusal 4's limits
within : Option Numeral → Option Numeral
within none = none
within (some d) = elim (beyond d) [ true ↦ none | false ↦ some d ]

module _ {w : Bytes} {r : NumberRead} (x : ReadsNumber w 0 r) where
  run : Run
  run = longest begin no_digits w

  word_is : word_number w ≡ within (to_the_end run)
  unfolding word_number within run
  word_is = ap within (spelled_longest begin no_digits w)

  -- a run that ends before the word does
  pub word_cut : (r.end ≡ length w → ⊥) → word_number w ≡ none
  unfolding within run
  word_cut h = word_is ∙ pick run.rest refl
    where
      pick : (s : Bytes) → run.rest ≡ s → within (to_the_end run) ≡ none
      pick [] e = absurd (h (let l : length (drop r.end w) ≡ 0 = ap length (x.rest ∙ e) in omega (arith, length-drop r.end w, x.within)))
      pick (b ∷ s) e = rw e

  module _ (ends : r.end ≡ length w) where
    rest_none : run.rest ≡ []
    unfolding run
    rest_none = empty (drop r.end w) (omega (arith, length-drop r.end w, ends)) (sym x.rest)
      where
        empty : (s : Bytes) → length s ≡ 0 → run.rest ≡ s → run.rest ≡ []
        empty [] l e = e
        empty (b ∷ s) l e = absurd (let z : ⊥ = omega arith in z)

    pub word_beyond : r.beyond ≡ true → word_number w ≡ none
    unfolding within run
    word_beyond b = word_is ∙ rw rest_none (pick (complete run.phase))
      where
        pick : (c : Bool) → within (elim c [ true ↦ some run.digits | false ↦ none ]) ≡ none
        pick true = rw (sym x.over ∙ b, within)
        pick false = refl

    pub word_broken : r.complete ≡ false → word_number w ≡ none
    unfolding within run
    word_broken b = word_is ∙ rw rest_none (rw (sym x.whole ∙ b, within))

    pub word_whole : r.beyond ≡ false → r.complete ≡ true → WordMeans w (number_in r)
    unfolding within run
    word_whole b c =
        record {
          numeral = run.digits;
          spelled = word_is ∙ rw rest_none (rw (sym x.whole ∙ c, within) (rw (sym x.over ∙ b, within)));
          meaning = x.meaning b;
          bounded = read_bounded x b;
        }
