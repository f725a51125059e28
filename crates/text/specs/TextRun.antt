-- A JSON text read whole, from behind its opening quote (definitions' Text, step by step). Assumes nothing.
use Rattle.std.specs.Prelude.{[], ◌∷◌, reverse}
use Rattle.definitions.specs.Bytes.{Bytes}
use Rattle.definitions.specs.Text.{Inside, wrong, more, closed, text_step}

-- how reading a text ends: behind its closing quote with what it decodes to, or at the byte (or the end) that no text has there
pub data TextEnd : Type 0 where
  ended : (text rest : Bytes) → TextEnd
  broke : (rest : Bytes) → TextEnd

-- reading from inside a text, whose bytes so far are acc, latest first
unfoldable pub text_run : Inside → Bytes → Bytes → TextEnd
text_run i acc [] = broke []
text_run i acc (b ∷ r) =
    elim (text_step i acc b) [ wrong ↦ broke (b ∷ r) | more j a ↦ text_run j a r | closed ↦ ended (reverse acc) r ]
