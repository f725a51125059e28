-- `form_reader::words::result_code` meets its contract. Assumes nothing.
use mathlib.Core.Path.{refl}
use native.Mathlib.Omega.{arith}
use Rattle.definitions.specs.Bytes.{bytes}
use Rattle.tokens.specs.TokenRead.{word_in}
use Rattle.tokens.specs.WordValues.{joined, word_value, fits}
use Rattle.form_reader.proofs.WordTables.{int_says, dec_says, bool_says, text_says, keep_says, count_says, each_says}
use Rattle.form_reader.proofs.WordTables.{when_says, if_says, num_says, str_says, yes_says, no_says, none_says, pack_says, no_result_says}
use Rattle.form_reader.proofs.words.result_code.Goals as goal

pub returns-in-1768846339 : goal.returns-in-1768846339
unfolding bytes word_value joined fits
returns-in-1768846339 c =
    record {
      told = int_says (word_in c.args.text.now c.args.word.place c.args.word.end)
          (c.word_value.ensures.told.is (bytes "int") refl c.in-1768846339.is);
    }

pub returns-in-1684366083 : goal.returns-in-1684366083
unfolding bytes word_value joined fits
returns-in-1684366083 c =
    record {
      told = dec_says (word_in c.args.text.now c.args.word.place c.args.word.end)
          (c.word_value.ensures.told.is (bytes "dec") refl c.in-1684366083.is);
    }

pub returns-in-422776368132 : goal.returns-in-422776368132
unfolding bytes word_value joined fits
returns-in-422776368132 c =
    record {
      told = bool_says (word_in c.args.text.now c.args.word.place c.args.word.end)
          (c.word_value.ensures.told.is (bytes "bool") refl c.in-422776368132.is);
    }

pub returns-in-499918599172 : goal.returns-in-499918599172
unfolding bytes word_value joined fits
returns-in-499918599172 c =
    record {
      told = text_says (word_in c.args.text.now c.args.word.place c.args.word.end)
          (c.word_value.ensures.told.is (bytes "text") refl c.in-499918599172.is);
    }

pub returns-in-461262647300 : goal.returns-in-461262647300
unfolding bytes word_value joined fits
returns-in-461262647300 c =
    record {
      told = keep_says (word_in c.args.text.now c.args.word.place c.args.word.end)
          (c.word_value.ensures.told.is (bytes "keep") refl c.in-461262647300.is);
    }

pub returns-in-109330362692613 : goal.returns-in-109330362692613
unfolding bytes word_value joined fits
returns-in-109330362692613 c =
    record {
      told = count_says (word_in c.args.text.now c.args.word.place c.args.word.end)
          (c.word_value.ensures.told.is (bytes "count") refl c.in-109330362692613.is);
    }

pub returns-in-435425601540 : goal.returns-in-435425601540
unfolding bytes word_value joined fits
returns-in-435425601540 c =
    record {
      told = each_says (word_in c.args.text.now c.args.word.place c.args.word.end)
          (c.word_value.ensures.told.is (bytes "each") refl c.in-435425601540.is);
    }

pub returns-in-512852585988 : goal.returns-in-512852585988
unfolding bytes word_value joined fits
returns-in-512852585988 c =
    record {
      told = when_says (word_in c.args.text.now c.args.word.place c.args.word.end)
          (c.word_value.ensures.told.is (bytes "when") refl c.in-512852585988.is);
    }

pub returns-in-6907394 : goal.returns-in-6907394
unfolding bytes word_value joined fits
returns-in-6907394 c =
    record {
      told = if_says (word_in c.args.text.now c.args.word.place c.args.word.end)
          (c.word_value.ensures.told.is (bytes "if") refl c.in-6907394.is);
    }

pub returns-in-1853189379 : goal.returns-in-1853189379
unfolding bytes word_value joined fits
returns-in-1853189379 c =
    record {
      told = num_says (word_in c.args.text.now c.args.word.place c.args.word.end)
          (c.word_value.ensures.told.is (bytes "num") refl c.in-1853189379.is);
    }

pub returns-in-1937011203 : goal.returns-in-1937011203
unfolding bytes word_value joined fits
returns-in-1937011203 c =
    record {
      told = str_says (word_in c.args.text.now c.args.word.place c.args.word.end)
          (c.word_value.ensures.told.is (bytes "str") refl c.in-1937011203.is);
    }

pub returns-in-2036691715 : goal.returns-in-2036691715
unfolding bytes word_value joined fits
returns-in-2036691715 c =
    record {
      told = yes_says (word_in c.args.text.now c.args.word.place c.args.word.end)
          (c.word_value.ensures.told.is (bytes "yes") refl c.in-2036691715.is);
    }

pub returns-in-7237378 : goal.returns-in-7237378
unfolding bytes word_value joined fits
returns-in-7237378 c =
    record {
      told = no_says (word_in c.args.text.now c.args.word.place c.args.word.end)
          (c.word_value.ensures.told.is (bytes "no") refl c.in-7237378.is);
    }

pub returns-in-474315908356 : goal.returns-in-474315908356
unfolding bytes word_value joined fits
returns-in-474315908356 c =
    record {
      told = none_says (word_in c.args.text.now c.args.word.place c.args.word.end)
          (c.word_value.ensures.told.is (bytes "none") refl c.in-474315908356.is);
    }

pub returns-in-482670242564 : goal.returns-in-482670242564
unfolding bytes word_value joined fits
returns-in-482670242564 c =
    record {
      told = pack_says (word_in c.args.text.now c.args.word.place c.args.word.end)
          (c.word_value.ensures.told.is (bytes "pack") refl c.in-482670242564.is);
    }

pub returns-in_default : goal.returns-in_default
unfolding bytes word_value joined fits
returns-in_default c =
    record {
      told = no_result_says (word_in c.args.text.now c.args.word.place c.args.word.end)
          (c.word_value.ensures.told.other (bytes "int") refl (λ e. omega (arith, c.in_default, e)))
          (c.word_value.ensures.told.other (bytes "dec") refl (λ e. omega (arith, c.in_default, e)))
          (c.word_value.ensures.told.other (bytes "bool") refl (λ e. omega (arith, c.in_default, e)))
          (c.word_value.ensures.told.other (bytes "text") refl (λ e. omega (arith, c.in_default, e)))
          (c.word_value.ensures.told.other (bytes "keep") refl (λ e. omega (arith, c.in_default, e)))
          (c.word_value.ensures.told.other (bytes "count") refl (λ e. omega (arith, c.in_default, e)))
          (c.word_value.ensures.told.other (bytes "each") refl (λ e. omega (arith, c.in_default, e)))
          (c.word_value.ensures.told.other (bytes "when") refl (λ e. omega (arith, c.in_default, e)))
          (c.word_value.ensures.told.other (bytes "if") refl (λ e. omega (arith, c.in_default, e)))
          (c.word_value.ensures.told.other (bytes "num") refl (λ e. omega (arith, c.in_default, e)))
          (c.word_value.ensures.told.other (bytes "str") refl (λ e. omega (arith, c.in_default, e)))
          (c.word_value.ensures.told.other (bytes "yes") refl (λ e. omega (arith, c.in_default, e)))
          (c.word_value.ensures.told.other (bytes "no") refl (λ e. omega (arith, c.in_default, e)))
          (c.word_value.ensures.told.other (bytes "none") refl (λ e. omega (arith, c.in_default, e)))
          (c.word_value.ensures.told.other (bytes "pack") refl (λ e. omega (arith, c.in_default, e)));
    }
