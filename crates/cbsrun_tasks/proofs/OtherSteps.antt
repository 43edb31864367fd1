-- The top table of a document with other steps.
use Rattle.std.proofs.Common.{◌≡◌, ℕ, false, ◌&&◌, List, [], ◌∷◌, ◌++◌, codes, Option, Some, None, is_some, Result, Ok, Err, Ordering}
use Rattle.std.proofs.Common.{Less, Equal, Greater, nat_cmp, is_eq, bytes_eq, refl, ap, sym, ◌∙◌}
use Rattle.std.proofs.lemmas.Bool.{true≢false}
use Rattle.std.proofs.lemmas.Option.{none-some}
use Rattle.std.proofs.lemmas.Cmp.{nat_list_cmp_total}
use Rattle.std.specs.Cmp.{tied_itself}
use Rattle.std.specs.List.{list_any}
use Rattle.std.specs.Ordering.{match_ordering}
use Rattle.std.specs.Cmp.Lexicographic.{slice_cmp}
use Rattle.toml.specs.Data.{Data, array, Items, Members, no_members, member, get_member}
use Rattle.cbs_rate.specs.Limits.{most_backlog, most_ring}
use Rattle.cbsrun_toml_tables.specs.declared.fault.FileKind.{FileKind}
use Rattle.cbsrun_toml_tables.specs.Fields.{◌>>=◌, seen, has_only, has_all, with_keys, of_some, list_of, within, integer_at, text_at, items_at, pair_at}
use Rattle.cbsrun_toml_tables.specs.Plans.{mode_of, bound_of}
use Rattle.cbsrun_task_steps.specs.declared.format.Format.{Format}
use Rattle.cbsrun_task_steps.specs.declared.format.Format.TheVariants.{One, Two}
use Rattle.cbsrun_task_steps.specs.Entries.{format_at}
use Rattle.cbsrun_tasks.specs.TopTables.{TypedData, TopData, keys_of, mode_at, typed_values, spelled_by, top_table}
use Rattle.cbsrun_toml.specs.Reading.{insert_member}

-- which keys a table has does not depend on the value at one of them
only_at : (o : Ordering) (keys : List (List ℕ)) (s l : List ℕ) (d e x : Data) (a b : Members) (ms : Members) → has_only keys a ≡ has_only keys b
    → has_only keys (match_ordering o (member s d (member l x ms)) (member l d ms) (member l x a))
    ≡ has_only keys (match_ordering o (member s e (member l x ms)) (member l e ms) (member l x b))
only_at Less keys s l d e x a b ms h = refl
only_at Equal keys s l d e x a b ms h = refl
only_at Greater keys s l d e x a b ms h = ap (λ t. list_any (λ k. bytes_eq k l) keys && t) h

-- the keys are the same, whatever stands at one
pub only_insert : (keys : List (List ℕ)) (s : List ℕ) (d e : Data) (ms : Members) → has_only keys (insert_member s d ms) ≡ has_only keys (insert_member s e ms)
only_insert keys s d e no_members = refl
only_insert keys s d e (member l x ms) = only_at (slice_cmp nat_cmp s l) keys s l d e x _ _ ms (only_insert keys s d e ms)

-- whether something is found does not depend on the value
found_at : (o : Ordering) (d e : Data) (a b : Option Data) → is_some a ≡ is_some b → is_some (match_ordering o a (Some d) a) ≡ is_some (match_ordering o b (Some e) b)
found_at Less d e a b h = h
found_at Equal d e a b h = refl
found_at Greater d e a b h = h

some_at : (o : Ordering) (k s l : List ℕ) (d e x : Data) (a b ms : Members) → is_some (get_member k a) ≡ is_some (get_member k b)
    → is_some (get_member k (match_ordering o (member s d (member l x ms)) (member l d ms) (member l x a)))
    ≡ is_some (get_member k (match_ordering o (member s e (member l x ms)) (member l e ms) (member l x b)))
some_at Less k s l d e x a b ms h = found_at (slice_cmp nat_cmp k s) d e _ _ refl
some_at Equal k s l d e x a b ms h = found_at (slice_cmp nat_cmp k l) d e _ _ refl
some_at Greater k s l d e x a b ms h = found_at (slice_cmp nat_cmp k l) x x _ _ h

-- a table has the same keys, whatever stands at one
some_insert : (k s : List ℕ) (d e : Data) (ms : Members) → is_some (get_member k (insert_member s d ms)) ≡ is_some (get_member k (insert_member s e ms))
some_insert k s d e no_members = found_at (slice_cmp nat_cmp k s) d e None None refl
some_insert k s d e (member l x ms) = some_at (slice_cmp nat_cmp s l) k s l d e x _ _ ms (some_insert k s d e ms)

all_insert : (keys : List (List ℕ)) (s : List ℕ) (d e : Data) (ms : Members) → has_all keys (insert_member s d ms) ≡ has_all keys (insert_member s e ms)
all_insert [] s d e ms = refl
all_insert (k ∷ keys) s d e ms = rw (some_insert k s d e ms, all_insert keys s d e ms) refl

-- what is found at another key is not the value at this one
skip_at : (o : Ordering) (d : Data) (a : Option Data) → is_eq o ≡ false → match_ordering o a (Some d) a ≡ a
skip_at Less d a h = refl
skip_at Equal d a h = absurd (true≢false h)
skip_at Greater d a h = refl

-- one more member changes nothing at another key
other_at : (o : Ordering) (k s l : List ℕ) (d x : Data) (a ms : Members) → is_eq (slice_cmp nat_cmp k s) ≡ false
    → match_ordering o (get_member s ms) (Some x) (get_member s ms) ≡ None
    → (get_member s ms ≡ None → get_member k a ≡ get_member k ms)
    → get_member k (match_ordering o (member s d (member l x ms)) (member l d ms) (member l x a)) ≡ get_member k (member l x ms)
other_at Less k s l d x a ms other none ih = skip_at (slice_cmp nat_cmp k s) d _ other
other_at Equal k s l d x a ms other none ih = absurd (none-some x (sym none))
other_at Greater k s l d x a ms other none ih = rw (ih none)

-- another key holds what it held
pub get_other : (k s : List ℕ) (d : Data) (ms : Members) → is_eq (slice_cmp nat_cmp k s) ≡ false → get_member s ms ≡ None
    → get_member k (insert_member s d ms) ≡ get_member k ms
get_other k s d no_members other none = skip_at (slice_cmp nat_cmp k s) d None other
get_other k s d (member l x ms) other none = other_at (slice_cmp nat_cmp s l) k s l d x _ ms other none (λ n. get_other k s d ms other n)

-- it is what is found at its own key
same_at : (o : Ordering) (s l : List ℕ) (d x : Data) (a ms : Members) → slice_cmp nat_cmp s l ≡ o → get_member s a ≡ Some d
    → get_member s (match_ordering o (member s d (member l x ms)) (member l d ms) (member l x a)) ≡ Some d
same_at Less s l d x a ms is ih = rw (tied_itself nat_list_cmp_total s)
same_at Equal s l d x a ms is ih = rw is
same_at Greater s l d x a ms is ih = rw is ih

-- the value at a key is the last that was put there
pub get_same : (s : List ℕ) (d : Data) (ms : Members) → get_member s (insert_member s d ms) ≡ Some d
get_same s d no_members = rw (tied_itself nat_list_cmp_total s)
get_same s d (member l x ms) = same_at (slice_cmp nat_cmp s l) s l d x _ ms refl (get_same s d ms)

-- the same values, each of its type, with other steps
abbrev pub with_typed : List Data → TypedData → TypedData
with_typed ds v = record { mode = v.mode; bound = v.bound; backlog = v.backlog; ring = v.ring; servers = v.servers; steps = ds }

-- what the top table spells, with other steps
abbrev pub with_steps : List Data → TopData → TopData
with_steps ds t = record { format = t.format; mode = t.mode; bound = t.bound; backlog = t.backlog; ring = t.ring; servers = t.servers; steps = ds }

-- a test of one value, and then two readers that differ by f
bind_seen : {A X Y : Type 0} (f : X → Y) (r : Result A FileKind) (k : A → Result Y FileKind) (l : A → Result X FileKind) → ((v : A) → k v ≡ seen f (l v))
    → (r >>= k) ≡ seen f (r >>= l)
bind_seen f (Ok v) k l h = h v
bind_seen f (Err e) k l h = refl

-- a value seen in two ways, and then two readers that differ by f
seen_bind : {A B C X Y : Type 0} (f : X → Y) (g : A → B) (h : A → C) (r : Result A FileKind) (k : B → Result Y FileKind) (l : C → Result X FileKind)
    → ((v : A) → k (g v) ≡ seen f (l (h v))) → (seen g r >>= k) ≡ seen f (seen h r >>= l)
seen_bind f g h (Ok v) k l e = e v
seen_bind f g h (Err kind) k l e = refl

-- the keys of a table are tested alike
keys_step : (format : Format) (d e : Data) (ms : Members)
    → with_keys (keys_of format) [] (insert_member (codes "step") d ms) ≡ with_keys (keys_of format) [] (insert_member (codes "step") e ms)
unfolding with_keys
keys_step format d e ms = rw (only_insert (keys_of format ++ []) (codes "step") d e ms, all_insert (keys_of format) (codes "step") d e ms) refl

-- the mode stands elsewhere
mode_step : (format : Format) (d : Data) (ms : Members) → get_member (codes "step") ms ≡ None
    → mode_at format (insert_member (codes "step") d ms) ≡ mode_at format ms
unfolding text_at
mode_step One d ms none = rw (get_other (codes "mode") (codes "step") d ms refl none) refl
mode_step Two d ms none = refl

-- an integer, two of them and an array at another key
integer_step : (key : List ℕ) (d : Data) (ms : Members) → is_eq (slice_cmp nat_cmp key (codes "step")) ≡ false → get_member (codes "step") ms ≡ None
    → integer_at key (insert_member (codes "step") d ms) ≡ integer_at key ms
unfolding integer_at
integer_step key d ms other none = rw (get_other key (codes "step") d ms other none) refl

items_step : (key : List ℕ) (d : Data) (ms : Members) → is_eq (slice_cmp nat_cmp key (codes "step")) ≡ false → get_member (codes "step") ms ≡ None
    → items_at key (insert_member (codes "step") d ms) ≡ items_at key ms
unfolding items_at
items_step key d ms other none = rw (get_other key (codes "step") d ms other none) refl

pair_step : (key : List ℕ) (d : Data) (ms : Members) → is_eq (slice_cmp nat_cmp key (codes "step")) ≡ false → get_member (codes "step") ms ≡ None
    → pair_at key (insert_member (codes "step") d ms) ≡ pair_at key ms
unfolding pair_at
pair_step key d ms other none = rw (items_step key d ms other none) refl

-- the steps themselves
own_items : (ds : Items) (ms : Members) → items_at (codes "step") (insert_member (codes "step") (array ds) ms) ≡ Ok (list_of ds)
unfolding items_at
own_items ds ms = rw (get_same (codes "step") (array ds) ms) refl

-- the values of the keys
typed_step : (format : Format) (ds es : Items) (ms : Members) → get_member (codes "step") ms ≡ None
    → typed_values format (insert_member (codes "step") (array ds) ms)
    ≡ seen (with_typed (list_of ds)) (typed_values format (insert_member (codes "step") (array es) ms))
unfolding typed_values
typed_step format ds es ms none =
    let f = with_typed (list_of ds) in
    let keys = with_keys (keys_of format) [] (insert_member (codes "step") (array es) ms) in
    rw (
      keys_step format (array ds) (array es) ms,
      mode_step format (array ds) ms none,
      pair_step (codes "bound") (array ds) ms refl none,
      integer_step (codes "backlog") (array ds) ms refl none,
      integer_step (codes "ring") (array ds) ms refl none,
      items_step (codes "server") (array ds) ms refl none,
      own_items ds ms,
      mode_step format (array es) ms none,
      pair_step (codes "bound") (array es) ms refl none,
      integer_step (codes "backlog") (array es) ms refl none,
      integer_step (codes "ring") (array es) ms refl none,
      items_step (codes "server") (array es) ms refl none,
      own_items es ms,
    ) (bind_seen f keys _ _ λ u. bind_seen f (mode_at format ms) _ _ λ mode_word. bind_seen f (pair_at (codes "bound") ms) _ _ λ bound_pair.
    bind_seen f (integer_at (codes "backlog") ms) _ _ λ backlog_number. bind_seen f (integer_at (codes "ring") ms) _ _ λ ring_number.
    bind_seen f (items_at (codes "server") ms) _ _ λ servers. refl)

-- what they spell
spelled_step : (format : Format) (ds : List Data) (v : TypedData) → spelled_by format (with_typed ds v) ≡ seen (with_steps ds) (spelled_by format v)
unfolding spelled_by
spelled_step format ds v =
    let f = with_steps ds in
    bind_seen f (of_some mode_of v.mode) _ _ λ mode. bind_seen f (bound_of v.bound) _ _ λ bound. bind_seen f (within 1 most_backlog v.backlog) _ _ λ backlog.
    bind_seen f (within 1 most_ring v.ring) _ _ λ ring. refl

-- a value that is read as it is
as_read : {A : Type 0} (r : Result A FileKind) → seen (λ v. v) r ≡ r
as_read (Ok v) = refl
as_read (Err kind) = refl

-- the top table of the same document with other steps
pub top_steps : (ds es : Items) (ms : Members) → get_member (codes "step") ms ≡ None
    → top_table (insert_member (codes "step") (array ds) ms) ≡ seen (with_steps (list_of ds)) (top_table (insert_member (codes "step") (array es) ms))
top_steps ds es ms none =
    let f = with_steps (list_of ds) in
    rw (integer_step (codes "format") (array ds) ms refl none, integer_step (codes "format") (array es) ms refl none)
    (bind_seen f (format_at ms) _ _ λ format.
    let r = typed_values format (insert_member (codes "step") (array es) ms) in
    ap (λ x. x >>= spelled_by format) (typed_step format ds es ms none)
    ∙ seen_bind f (with_typed (list_of ds)) (λ v. v) r (spelled_by format) (spelled_by format) (spelled_step format (list_of ds))
    ∙ ap (λ x. seen f (x >>= spelled_by format)) (as_read r))
