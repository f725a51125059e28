-- `form_reader::words::test_code` meets its contract. Assumes nothing.
use mathlib.Core.Path.{refl}
use native.Mathlib.Omega.{arith}
use Rattle.definitions.specs.Bytes.{bytes}
use Rattle.tokens.specs.TokenRead.{word_in}
use Rattle.tokens.specs.WordValues.{joined, word_value, fits}
use Rattle.form_reader.proofs.WordTables.{null_told, bool_told, int_told, num_told, text_told, list_told, rec_told, no_test_told}
use Rattle.form_reader.proofs.words.test_code.Goals as goal

pub returns-in-474416442372 : goal.returns-in-474416442372
unfolding bytes word_value joined fits
returns-in-474416442372 c =
    record {
      told = null_told (word_in c.args.text.now c.args.word.place c.args.word.end)
          (c.word_value.ensures.told.is (bytes "null") refl c.in-474416442372.is);
    }

pub returns-in-422776368132 : goal.returns-in-422776368132
unfolding bytes word_value joined fits
returns-in-422776368132 c =
    record {
      told = bool_told (word_in c.args.text.now c.args.word.place c.args.word.end)
          (c.word_value.ensures.told.is (bytes "bool") refl c.in-422776368132.is);
    }

pub returns-in-1768846339 : goal.returns-in-1768846339
unfolding bytes word_value joined fits
returns-in-1768846339 c =
    record {
      told = int_told (word_in c.args.text.now c.args.word.place c.args.word.end)
          (c.word_value.ensures.told.is (bytes "int") refl c.in-1768846339.is);
    }

pub returns-in-1853189379 : goal.returns-in-1853189379
unfolding bytes word_value joined fits
returns-in-1853189379 c =
    record {
      told = num_told (word_in c.args.text.now c.args.word.place c.args.word.end)
          (c.word_value.ensures.told.is (bytes "num") refl c.in-1853189379.is);
    }

pub returns-in-499918599172 : goal.returns-in-499918599172
unfolding bytes word_value joined fits
returns-in-499918599172 c =
    record {
      told = text_told (word_in c.args.text.now c.args.word.place c.args.word.end)
          (c.word_value.ensures.told.is (bytes "text") refl c.in-499918599172.is);
    }

pub returns-in-465625641988 : goal.returns-in-465625641988
unfolding bytes word_value joined fits
returns-in-465625641988 c =
    record {
      told = list_told (word_in c.args.text.now c.args.word.place c.args.word.end)
          (c.word_value.ensures.told.is (bytes "list") refl c.in-465625641988.is);
    }

pub returns-in-1919247107 : goal.returns-in-1919247107
unfolding bytes word_value joined fits
returns-in-1919247107 c =
    record {
      told = rec_told (word_in c.args.text.now c.args.word.place c.args.word.end)
          (c.word_value.ensures.told.is (bytes "rec") refl c.in-1919247107.is);
    }

pub returns-in_default : goal.returns-in_default
unfolding bytes word_value joined fits
returns-in_default c =
    record {
      told = no_test_told (word_in c.args.text.now c.args.word.place c.args.word.end)
          (c.word_value.ensures.told.other (bytes "null") refl (λ e. omega (arith, c.in_default, e)))
          (c.word_value.ensures.told.other (bytes "bool") refl (λ e. omega (arith, c.in_default, e)))
          (c.word_value.ensures.told.other (bytes "int") refl (λ e. omega (arith, c.in_default, e)))
          (c.word_value.ensures.told.other (bytes "num") refl (λ e. omega (arith, c.in_default, e)))
          (c.word_value.ensures.told.other (bytes "text") refl (λ e. omega (arith, c.in_default, e)))
          (c.word_value.ensures.told.other (bytes "list") refl (λ e. omega (arith, c.in_default, e)))
          (c.word_value.ensures.told.other (bytes "rec") refl (λ e. omega (arith, c.in_default, e)));
    }
