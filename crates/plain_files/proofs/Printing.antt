-- What is printed of a file, part by part. Assumes nothing.
use Rattle.std.proofs.Common.{◌≡◌, ℕ, List, ◌++◌, Option, Result, sym, ap, ◌∙◌, subst, append_assoc}
use Rattle.std.proofs.lemmas.Result.{on_ok_weaker}
use Rattle.std.proofs.KnownBytes.{Appends-trans}
use Rattle.std.specs.Prelude.{OnOk, decimal, codes}
use Rattle.std.specs.Io.KnownBytes.{Appends}
use Rattle.definitions.specs.Operations.{Done}
use Rattle.plain_files.specs.Lines.{figure_of, shown_of, line_of}

joined : (name s n k : List ℕ) → name ++ (s ++ (n ++ (s ++ k))) ≡ name ++ s ++ n ++ s ++ k
joined name s n k = sym (append_assoc (name ++ s ++ n) s k ∙ append_assoc (name ++ s) n (s ++ k) ∙ append_assoc name s (n ++ (s ++ k)))

-- the numbers, what is shown of the output, and the line's end
pub line_printed
    : {T E : Type 0} (a b c d : Option (List ℕ)) (r : Result T E) (name : List ℕ) (k : ℕ) (done : Done) → k ≡ figure_of done.answer
    → Appends a b (name ++ (codes " " ++ (decimal done.answer.number ++ (codes " " ++ decimal k))))
    → Appends b c (shown_of done) → OnOk r (Appends c d (codes "\n")) → OnOk r (Appends a d (line_of name done))
line_printed a b c d r name k done e numbers shown end =
    let number = decimal done.answer.number in
    let spelled = joined name (codes " ") number (decimal k) ∙ ap (λ x. name ++ codes " " ++ number ++ codes " " ++ decimal x) e in
    let front = subst (Appends a b) spelled numbers in
    on_ok_weaker r (λ last. Appends-trans a c d _ _ (Appends-trans a b c _ _ front shown) last) end
