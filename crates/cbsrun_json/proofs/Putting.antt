-- Members that are put among others, one after another.
use Rattle.std.proofs.Common.{◌≡◌, ◌∙◌, ℕ, ◌+◌, ◌<◌, List, [], ◌∷◌, ◌++◌, length, map, take, refl, ap}
use Rattle.std.specs.Prelude.{get_or}
use Rattle.std.proofs.lemmas.List.{map_more}
use Rattle.serde_json.specs.Data.{Data, Members, put}
use Rattle.cbsrun_json.specs.Members.{with_members}

-- the last one
with_members_push : (front : List (List ℕ × Data)) (m : List ℕ × Data) (ms : Members)
    → with_members (front ++ m ∷ []) ms ≡ put m.0 m.1 (with_members front ms)
with_members_push [] m ms = refl
with_members_push (x ∷ front) m ms = with_members_push front m (put x.0 x.1 ms)

-- the next one of a list
next_member : {X : Type 0} (f : X → List ℕ × Data) (more : List X) (i : ℕ) (d : X) (ms : Members) → i < length more
    → with_members (map f (take (i + 1) more)) ms ≡ put (f (get_or more i d)).0 (f (get_or more i d)).1 (with_members (map f (take i more)) ms)
next_member f more i d ms lt =
    ap (λ xs. with_members xs ms) (map_more f more i d lt) ∙ with_members_push (map f (take i more)) (f (get_or more i d)) ms

-- .. when it has been put
pub put_next : {X : Type 0} (f : X → List ℕ × Data) (more : List X) (i : ℕ) (d x : X) (start before now : Members) (value : Data) → i < length more
    → x ≡ get_or more i d → now ≡ put (f x).0 value before → value ≡ (f x).1 → before ≡ with_members (map f (take i more)) start
    → now ≡ with_members (map f (take (i + 1) more)) start
put_next f more i d x start before now value lt item wrote is so_far = rw (next_member f more i d start lt, ← so_far, ← item, ← is) wrote
