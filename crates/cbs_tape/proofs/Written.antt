-- What is read of the bytes that were written.
use Rattle.std.proofs.Common.{◌≡◌, true, false, ℕ, ◌+◌, ◌-◌, ◌≤◌, List, [], ◌∷◌, ◌++◌, length, take, drop, refl, sym, ap, ap₂, ◌∙◌, append_assoc, arith}
use Rattle.std.specs.Prelude.{All}
use Rattle.std.specs.List.{AllByRecursion}
use Rattle.std.proofs.lemmas.List.Elements.{recursion_from_All}
use Rattle.std.proofs.Math.ListN.{replicate}
use Rattle.std.proofs.lemmas.Bool.{le-leb, lt-leb}
use Rattle.std.proofs.lemmas.List.{length-append, length-replicate, append-nil, take_at, drop_at, length-drop}
use Rattle.cbs_steps.specs.declared.step.Step.{Step}
use Rattle.cbs_steps.specs.declared.step.Step.TheVariants as step
use Rattle.cbs_units.specs.declared.count.CountJob.{CountJob}
use Rattle.cbs_tape.specs.declared.entry.Entry.{Entry}
use Rattle.cbs_tape.specs.declared.entry.Ending.{Ending}
use Rattle.cbs_tape.specs.declared.entry.Ending.TheVariants.{Marked, Cut}
use Rattle.cbs_tape.specs.Spelling.{entry, entries, spelling, HasSpelling}
use Rattle.cbs_tape.specs.Reading.{Told, told, kept, ending_at}
use Rattle.cbs_tape.specs.Tapes.{Taped, steps_of, all_steps, steps_in, AreEntries, Tells, HandsOut, Joins, EndsPieces}
use Rattle.cbs_tape.proofs.Cuts.{told_cut}

-- the mark stands after the entries
spelling_is : (es : List Entry) → spelling es ≡ entries es ++ 4 ∷ []
spelling_is [] = refl
spelling_is (e ∷ es) = rw (spelling_is es) (sym (append_assoc (entry e) (entries es) (4 ∷ [])))

-- one entry more
entries-push : (es : List Entry) (e : Entry) → entries (es ++ e ∷ []) ≡ entries es ++ entry e
entries-push [] e = append-nil (entry e)
entries-push (x ∷ es) e = rw (entries-push es e) (sym (append_assoc (entry x) (entries es) (entry e)))

all_steps-push : (es : List Entry) (e : Entry) → all_steps (es ++ e ∷ []) ≡ all_steps es ++ steps_of e
all_steps-push [] e = append-nil (steps_of e)
all_steps-push (x ∷ es) e = rw (all_steps-push es e) (sym (append_assoc (steps_of x) (all_steps es) (steps_of e)))

each-push : (es : List Entry) (e : Entry) → AllByRecursion HasSpelling es → HasSpelling e → AllByRecursion HasSpelling (es ++ e ∷ [])
each-push [] e all one = (one, tt)
each-push (x ∷ es) e all one = (all.0, each-push es e all.1 one)

-- all entries are kept if all their bytes are there, with the mark or without it
all_kept : (es : List Entry) (k : ℕ) → length (entries es) ≤ k → kept k es ≡ es
unfolding kept
all_kept [] k le = refl
all_kept (e ∷ es) k le =
    let n = length-append (entry e) (entries es) in
    rw (le-leb (length (entry e)) k (omega (arith, n)), all_kept es (k - length (entry e)) (omega (arith, n))) refl

take_all : (xs : List ℕ) → take (length xs) xs ≡ xs
take_all [] = refl
take_all (x ∷ xs) = ap (λ (ys : List ℕ). x ∷ ys) (take_all xs)

-- what is read of the first k bytes of a tape, if these are the bytes
told_first : (es : List Entry) (k : ℕ) (bytes : List ℕ) → AllByRecursion HasSpelling es → length (entries es) ≤ k → take k (spelling es) ≡ bytes
    → told bytes ≡ record { entries = es; ending = ending_at k es }
told_first es k bytes each le is =
    let cut : told (take k (spelling es)) ≡ record { entries = kept k es; ending = ending_at k es } = told_cut es k (length (take k (spelling es))) each (omega arith) in
    ap told (sym is) ∙ (cut ∙ ap (λ (xs : List Entry). record { entries = xs; ending = ending_at k es }) (all_kept es k le))

-- what was written with the mark is read again
pub marked_again : (es : List Entry) → AllByRecursion HasSpelling es → told (spelling es) ≡ record { entries = es; ending = Marked }
marked_again es each =
    let n : length (spelling es) ≡ length (entries es) + 1 = ap length (spelling_is es) ∙ length-append (entries es) (4 ∷ []) in
    rw (told_first es (length (spelling es)) (spelling es) each (omega (arith, n)) (take_all (spelling es)), le-leb (length (spelling es)) (length (spelling es)) (omega arith)) refl

-- so whoever reads it has the entries
pub reads_again : (bytes : List ℕ) (xs : List Entry) (ending : Ending) → told bytes ≡ record { entries = xs; ending = ending } → (es : List Entry) → All HasSpelling es
    → bytes ≡ spelling es → (xs ≡ es) × (ending ≡ Marked)
reads_again bytes xs ending is es each e =
    let both : record { entries = xs; ending = ending } ≡ record { entries = es; ending = Marked } = sym is ∙ (ap told e ∙ marked_again es (recursion_from_All HasSpelling es each)) in
    (ap (λ (t : Told). t.entries) both, ap (λ (t : Told). t.ending) both)

-- so is what was written without it, as a tape that is cut
pub cut_again : (es : List Entry) → AllByRecursion HasSpelling es → told (entries es) ≡ record { entries = es; ending = Cut }
cut_again es each =
    let n : length (spelling es) ≡ length (entries es) + 1 = ap length (spelling_is es) ∙ length-append (entries es) (4 ∷ []) in
    let front : take (length (entries es)) (spelling es) ≡ entries es = ap (take (length (entries es))) (spelling_is es) ∙ take_at (entries es) (4 ∷ []) (length (entries es)) refl in
    rw (told_first es (length (entries es)) (entries es) each (omega arith) front, lt-leb (length (spelling es)) (length (entries es)) (omega (arith, n))) refl

-- no bytes
pub none_are : (bytes : List ℕ) → bytes ≡ [] → AreEntries bytes
none_are bytes none =
    let es : (told bytes).entries ≡ [] = ap (λ (b : List ℕ). (told b).entries) none ∙ ap (λ (t : Told). t.entries) (cut_again [] tt) in
    record { spelled = ap entries es ∙ sym none; each = rw es tt }

pub no_steps : (bytes : List ℕ) → bytes ≡ [] → steps_in bytes ≡ []
no_steps bytes none = ap steps_in none ∙ ap (λ (t : Told). all_steps t.entries) (cut_again [] tt)

-- one more entry
pub tells_one : (bytes more : List ℕ) (e : Entry) → AreEntries bytes → HasSpelling e → more ≡ bytes ++ entry e → Tells (steps_of e) bytes more
tells_one bytes more e are has is =
    let es : List Entry = (told bytes).entries ++ e ∷ [] in
    let each : AllByRecursion HasSpelling es = each-push (told bytes).entries e are.each has in
    let same : more ≡ entries es = is ∙ (ap (λ (b : List ℕ). b ++ entry e) (sym are.spelled) ∙ sym (entries-push (told bytes).entries e)) in
    let again : (told more).entries ≡ es = ap (λ (b : List ℕ). (told b).entries) same ∙ ap (λ (t : Told). t.entries) (cut_again es each) in
    record {
      are = record { spelled = ap entries again ∙ sym same; each = rw again each };
      steps = ap all_steps again ∙ all_steps-push (told bytes).entries e;
    }

-- the entries of two pieces
entries-append : (es fs : List Entry) → entries (es ++ fs) ≡ entries es ++ entries fs
entries-append [] fs = refl
entries-append (e ∷ es) fs = rw (entries-append es fs) (sym (append_assoc (entry e) (entries es) (entries fs)))

all_steps-append : (es fs : List Entry) → all_steps (es ++ fs) ≡ all_steps es ++ all_steps fs
all_steps-append [] fs = refl
all_steps-append (e ∷ es) fs = rw (all_steps-append es fs) (sym (append_assoc (steps_of e) (all_steps es) (all_steps fs)))

each-append : (es fs : List Entry) → AllByRecursion HasSpelling es → AllByRecursion HasSpelling fs → AllByRecursion HasSpelling (es ++ fs)
each-append [] fs p q = q
each-append (e ∷ es) fs p q = (p.0, each-append es fs p.1 q)

-- the bytes of one piece after those of another
pub joins : (a b : List ℕ) → Joins a b
joins a b p q =
    let es : List Entry = (told a).entries ++ (told b).entries in
    let each : AllByRecursion HasSpelling es = each-append (told a).entries (told b).entries p.each q.each in
    let same : a ++ b ≡ entries es = ap₂ ◌++◌ (sym p.spelled) (sym q.spelled) ∙ sym (entries-append (told a).entries (told b).entries) in
    let again : (told (a ++ b)).entries ≡ es = ap (λ (bytes : List ℕ). (told bytes).entries) same ∙ ap (λ (t : Told). t.entries) (cut_again es each) in
    record {
      are = record { spelled = ap entries again ∙ sym same; each = rw again each };
      steps = ap all_steps again ∙ all_steps-append (told a).entries (told b).entries;
    }

-- the bytes of a tape, before what a buffer had after them
pub hands_out : (n : ℕ) (old new : Taped) (bytes before after : List ℕ) → AreEntries bytes → steps_in bytes ≡ old.steps → n ≡ length bytes → n ≤ length before
    → after ≡ bytes ++ drop n before → new.steps ≡ [] → new.whole ≡ old.whole → new.room ≡ new.size → old.size ≤ new.size → HandsOut n old new before after
hands_out n old new bytes before after are steps count fits is none whole room size =
    let front : take n after ≡ bytes = ap (take n) is ∙ take_at bytes (drop n before) n (sym count) in
    record {
      are = rw front are;
      steps = rw front steps;
      others = ap (drop n) is ∙ drop_at bytes (drop n before) n (sym count);
      within = omega (arith, ap length is, length-append bytes (drop n before), count);
      same = omega (arith, ap length is, length-append bytes (drop n before), length-drop n before, count, fits);
      none = none;
      whole = whole;
      room = room;
      size = size;
    }

-- no units in a row
pub tells_none : (bytes : List ℕ) (n : ℕ) → n ≡ 0 → AreEntries bytes → Tells (replicate n step.Run) bytes bytes
tells_none bytes n none are = record { are = are; steps = rw none (sym (append-nil (steps_in bytes))) }

-- a row of units, and an entry
pub tells_two : (a b c : List ℕ) (xs ys : List (Step CountJob)) → Tells xs a b → Tells ys b c → steps_in c ++ [] ≡ (steps_in a ++ xs) ++ ys
tells_two a b c xs ys first second = append-nil (steps_in c) ∙ (second.steps ∙ ap (λ (zs : List (Step CountJob)). zs ++ ys) first.steps)

-- the entries, with the mark after them
marked : (bytes all : List ℕ) → AreEntries bytes → all ≡ bytes ++ 4 ∷ [] → told all ≡ record { entries = (told bytes).entries; ending = Marked }
marked bytes all are is =
    let es : List Entry = (told bytes).entries in
    let same : all ≡ spelling es = is ∙ (ap (λ (b : List ℕ). b ++ 4 ∷ []) (sym are.spelled) ∙ sym (spelling_is es)) in
    ap told same ∙ marked_again es are.each

-- the end of a whole tape
pub ends_marked : (bytes all : List ℕ) → AreEntries bytes → all ≡ bytes ++ 4 ∷ [] → (told all).ending ≡ Marked
ends_marked bytes all are is = ap (λ (t : Told). t.ending) (marked bytes all are is)

pub marked_steps : (old bytes all : List ℕ) (xs : List (Step CountJob)) → Tells xs old bytes → all ≡ bytes ++ 4 ∷ [] → steps_in all ≡ steps_in old ++ xs
marked_steps old bytes all xs tells is = ap (λ (t : Told). all_steps t.entries) (marked bytes all tells.are is) ∙ tells.steps

-- the end of a tape that lost a step
pub ends_cut : (bytes : List ℕ) → AreEntries bytes → (told bytes).ending ≡ Cut
ends_cut bytes are = ap (λ (b : List ℕ). (told b).ending) (sym are.spelled) ∙ ap (λ (t : Told). t.ending) (cut_again (told bytes).entries are.each)

-- a row is no longer than all steps
pub row_length : (xs : List (Step CountJob)) (n : ℕ) → n ≤ length (xs ++ replicate n step.Run)
row_length xs n = omega (arith, length-append xs (replicate n step.Run), length-replicate {A = Step CountJob} n step.Run)

-- a whole tape ends pieces that were handed out
pub pieces_marked : (old bytes all : List ℕ) (xs : List (Step CountJob)) (tape : Taped) → Tells xs old bytes → all ≡ bytes ++ 4 ∷ []
    → tape.steps ≡ steps_in old ++ xs → tape.whole ≡ true → EndsPieces all tape
pieces_marked old bytes all xs tape tells is steps whole before are =
    let both : before ++ all ≡ (before ++ bytes) ++ 4 ∷ [] = ap (λ (b : List ℕ). before ++ b) is ∙ sym (append_assoc before bytes (4 ∷ [])) in
    let j = joins before bytes are tells.are in (
      marked_steps before (before ++ bytes) (before ++ all) (steps_in bytes) j both
          ∙ ap (λ (ys : List (Step CountJob)). steps_in before ++ ys) (tells.steps ∙ sym steps),
      rw whole (ends_marked (before ++ bytes) (before ++ all) j.are both),
    )

-- so does one that lost a step, without the mark
pub pieces_cut : (bytes : List ℕ) (tape : Taped) → AreEntries bytes → tape.steps ≡ steps_in bytes → tape.whole ≡ false → EndsPieces bytes tape
pieces_cut bytes tape all steps whole before are =
    let j = joins before bytes are all in (
      j.steps ∙ ap (λ (ys : List (Step CountJob)). steps_in before ++ ys) (sym steps),
      rw whole (ends_cut (before ++ bytes) j.are),
    )
