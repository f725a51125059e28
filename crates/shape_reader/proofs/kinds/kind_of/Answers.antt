-- `shape_reader::kinds::kind_of` meets its contract. Assumes nothing.
use mathlib.Core.Path.{refl}
use native.Mathlib.Omega.{arith}
use Rattle.definitions.specs.Bytes.{bytes, order, same}
use Rattle.definitions.specs.Shape.{Kind, all_kinds}
use Rattle.definitions.specs.ShapeText.{kind_name, kind_words}
use Rattle.definitions.specs.Tokens.{look_word}
use Rattle.shapes.specs.Shapes.{kind_bit}
use Rattle.tokens.specs.WordValues.{joined, word_value, fits}
use Rattle.shape_reader.specs.ShapeParts.{kind_code}
use Rattle.shape_reader.proofs.KindWords.{kind_told, misses_none, misses_one, kind_missed}
use Rattle.shape_reader.proofs.kinds.kind_of.Goals as goal

pub returns-in-474416442372 : goal.returns-in-474416442372
unfolding kind_words all_kinds kind_name bytes kind_bit look_word kind_code same order word_value joined fits
returns-in-474416442372 c = record { told = kind_told c.word_value.ensures.told (kind_name Kind.null) refl c.in-474416442372.is refl }

pub returns-in-422776368132 : goal.returns-in-422776368132
unfolding kind_words all_kinds kind_name bytes kind_bit look_word kind_code same order word_value joined fits
returns-in-422776368132 c = record { told = kind_told c.word_value.ensures.told (kind_name Kind.bool) refl c.in-422776368132.is refl }

pub returns-in-1768846339 : goal.returns-in-1768846339
unfolding kind_words all_kinds kind_name bytes kind_bit look_word kind_code same order word_value joined fits
returns-in-1768846339 c = record { told = kind_told c.word_value.ensures.told (kind_name Kind.int) refl c.in-1768846339.is refl }

pub returns-in-1684366083 : goal.returns-in-1684366083
unfolding kind_words all_kinds kind_name bytes kind_bit look_word kind_code same order word_value joined fits
returns-in-1684366083 c = record { told = kind_told c.word_value.ensures.told (kind_name Kind.dec) refl c.in-1684366083.is refl }

pub returns-in-499918599172 : goal.returns-in-499918599172
unfolding kind_words all_kinds kind_name bytes kind_bit look_word kind_code same order word_value joined fits
returns-in-499918599172 c = record { told = kind_told c.word_value.ensures.told (kind_name Kind.text) refl c.in-499918599172.is refl }

pub returns-in-465625641988 : goal.returns-in-465625641988
unfolding kind_words all_kinds kind_name bytes kind_bit look_word kind_code same order word_value joined fits
returns-in-465625641988 c = record { told = kind_told c.word_value.ensures.told (kind_name Kind.list) refl c.in-465625641988.is refl }

pub returns-in-1919247107 : goal.returns-in-1919247107
unfolding kind_words all_kinds kind_name bytes kind_bit look_word kind_code same order word_value joined fits
returns-in-1919247107 c = record { told = kind_told c.word_value.ensures.told (kind_name Kind.rec) refl c.in-1919247107.is refl }

pub returns-in_default : goal.returns-in_default
unfolding kind_words all_kinds kind_name bytes kind_bit word_value joined fits
returns-in_default c =
    record {
      told = let t = c.word_value.ensures.told in
          kind_missed {rows = kind_words}
          (misses_one (t.other (kind_name Kind.null) refl (λ e. omega (arith, c.in_default, e)))
          (misses_one (t.other (kind_name Kind.bool) refl (λ e. omega (arith, c.in_default, e)))
          (misses_one (t.other (kind_name Kind.int) refl (λ e. omega (arith, c.in_default, e)))
          (misses_one (t.other (kind_name Kind.dec) refl (λ e. omega (arith, c.in_default, e)))
          (misses_one (t.other (kind_name Kind.text) refl (λ e. omega (arith, c.in_default, e)))
          (misses_one (t.other (kind_name Kind.list) refl (λ e. omega (arith, c.in_default, e)))
          (misses_one (t.other (kind_name Kind.rec) refl (λ e. omega (arith, c.in_default, e)))
          misses_none)))))));
    }
