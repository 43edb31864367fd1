-- What stands below the line of a fault, and the explanations of the other faults.
use Rattle.std.proofs.Common.{◌≡◌, ◌∙◌, ℕ, List, [], ◌∷◌, ◌++◌, append_assoc, append-nil, refl, subst, sym, inl, Option, Some, Result, Ok, Err}
use Rattle.std.specs.Prelude.{IfOk, IfSome, OnOk}
use Rattle.std.specs.Result.{result_ok}
use Rattle.cbsrun_io.proofs.WrittenText.{Appends-then}
use Rattle.cbsrun_toml_tables.specs.declared.fault.FileFault.{FileFault}
use Rattle.cbsrun_commands.specs.FaultLines.{file_line, Explains, ExplainsAll, StandsLast, WritesExplained}
use Rattle.cbsrun_lines.specs.Writers.{Writer, TriesToWrite, Writes}
use Rattle.cbsrun_lines.proofs.Writers.{tries_below}

-- what was done is told by an option
pub done_with : {E P Q : Type 0} (r : Result (Unit {0}) E) (o : Option (Unit {0})) → o ≡ result_ok r → OnOk r P → (P → Q) → IfSome o (λ _. Q)
done_with (Ok x) o e p then = rw e (then p)
done_with (Err d) o e p then = rw e tt

pub was_done : {E P : Type 0} (r : Result (Unit {0}) E) (o : Option (Unit {0})) (x : Unit {0}) → o ≡ result_ok r → o ≡ Some x → OnOk r P → P
was_done (Ok y) o x e is p = p
was_done (Err d) o x e is p = let h = sym e ∙ is in absurd cc

pub was_made : {T E : Type 0} (P : T → Type 0) (r : Result T E) (o : Option T) (x : T) → o ≡ result_ok r → o ≡ Some x → IfOk r P → P x
was_made P (Ok y) o x e is p = let same : y ≡ x = let h = sym e ∙ is in cc in subst P same p
was_made P (Err d) o x e is p = let h = sym e ∙ is in absurd cc

-- a text was written, and then another
pub writes_below : (old mid new : Writer) (line below : List ℕ) → Writes old mid line → Writes mid new below → Writes old new (line ++ below)
writes_below old mid new line below wrote more =
    (Appends-then old.written mid.written new.written line below wrote.0 more.0, more.1 ∙ wrote.1)

-- no other fault is explained
pub first_alone : (name bytes : List ℕ) (fault : FileFault) (old new : Writer) → Explains name bytes fault old new → ExplainsAll name bytes fault old new
first_alone name bytes fault old new ([], below, tried) = ([], tt, tried)
first_alone name bytes fault old new (byte ∷ text, below, tried) =
    (byte ∷ text, (below.0, text, [], below.1, inl refl, sym (append-nil text)), tried)

pub first_whole : (name bytes : List ℕ) (fault : FileFault) (old new : Writer) → WritesExplained name bytes fault old new → ExplainsAll name bytes fault old new
first_whole name bytes fault old new wrote =
    let text = wrote.0 in
    (10 ∷ text, (refl, text, [], wrote.1, inl refl, sym (append-nil text)), inl wrote.2)

-- others are explained below the first one
pub others_below : (name bytes : List ℕ) (fault : FileFault) (others : List ℕ) (old mid new : Writer) → WritesExplained name bytes fault old mid
    → StandsLast bytes others → TriesToWrite mid new others → ExplainsAll name bytes fault old new
others_below name bytes fault others old mid new wrote last tried =
    let text = wrote.0 in
    let whole = tries_below old mid new (file_line fault ++ (10 ∷ text)) others wrote.2 tried in
    (10 ∷ (text ++ others), (refl, text, others, wrote.1, last, refl), rw (append_assoc (file_line fault) (10 ∷ text) others) at whole)
