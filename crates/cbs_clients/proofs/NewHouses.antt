-- A new house.
use Rattle.std.proofs.Common.{false, ◌≡◌, ℕ, ◌+◌, ◌<◌, List, [], ◌∷◌, ◌++◌, length, map, get_or, Some, refl, zero-add, ap, sym, ◌∙◌, arith, ap₂, subst}
use Rattle.std.specs.Prelude.{slice_get}
use Rattle.std.specs.List.{All, range_with_len}
use Rattle.std.proofs.lemmas.List.{length-map, map-id, map-append}
use Rattle.std.proofs.lemmas.List.FromFn.{map-range_with_len_more, length-range_with_len, get_or-range_with_len}
use Rattle.std.proofs.lemmas.List.Elements.{recursion_from_All, All-weaker, All-head, All-tail}
use Rattle.std.proofs.lemmas.Option.{slice_get-get_or}
use Rattle.rtrb.specs.Ring.{received, known_items}
use Rattle.rtrb.specs.declared.AnyItems.{AnyItems}
use Rattle.rtrb.specs.declared.consumer.Consumer.{Consumer}
use Rattle.cbs_clients.specs.declared.message.Message.{Message}
use Rattle.cbs_job.specs.Work.{Meaning}
use Rattle.cbs_job.specs.declared.work.Work.{Ghosts}
use Rattle.cbs_core.specs.Agreement.{Agrees}
use Rattle.cbs_core.specs.Held.{CoreHeld, held_at}
use Rattle.cbs_steps.specs.History.{Setup}
use Rattle.cbs_core.proofs.Laws.{new_server}
use Rattle.cbs_clients.specs.declared.client.Client.{Client}
use Rattle.cbs_clients.specs.declared.rings.Rings.{Rings}
use Rattle.cbs_clients.specs.Clients.{server_of, ring_of, IsOpened, AreOpened, EachOpened}
use Rattle.cbs_results.specs.Collected.{Shelved, SameShelf, no_shelf, shelf_at}
use Rattle.cbs_clients.specs.HouseInvariant.{KeepsServer, Housed}
use Rattle.cbs_clients.specs.Opened.{IsNewEnd}
use Rattle.cbs_clients.specs.Rings.{rings_in, received_in, known_in, Ring}
use Rattle.cbs_clients.proofs.Places.{at_all, at_map}

-- nothing was popped, and nothing seen
module _ {W A : Type 0} where
  pub new_known : (es : List (Consumer (Message W) A AnyItems)) → All IsNewEnd es → (s : ℕ) → get_or (map known_items es) s [] ≡ []
  new_known es a s = at_all known_items [] es (recursion_from_All (λ c. known_items c ≡ []) es (All-weaker IsNewEnd (λ c. known_items c ≡ []) (λ c k. k.known) es a)) s

module _ {W A : Type 0} {g : Ghosts W} where
  pub new_rings : (r : Rings W A g) → All IsNewEnd r.ends.items → (s : ℕ) → (received_in r s ≡ []) × (known_in r s ≡ [])
  new_rings r a s =
      let es = r.ends.items in (
        at_all received [] es (recursion_from_All (λ c. received c ≡ []) es (All-weaker IsNewEnd (λ c. received c ≡ []) (λ c k. k.received) es a)) s,
        new_known es a s,
      )

module _ {W : Type 0} (work : Meaning W) where
  module _ (core : CoreHeld W) (setup : Setup) (agrees : Agrees work core (record { setup = setup; steps = [] })) where
    pub new_kept : (s : ℕ) → s < length core.faces → KeepsServer work (held_at core s) [] 0 false []
    new_kept s l = let n = new_server work core setup agrees s l in record {
      outputs = λ none. rw n.jobs refl;
      held = rw n.jobs refl;
      within = omega arith;
      accepted = n.accepted;
      finished = n.finished;
      closed = n.unclosed;
      last = refl;
    }

    pub housed_new : {A : Type 0} {g : Ghosts W} (r : Rings W A g) (shelves : List Shelved)
        → length (rings_in r) ≡ length core.faces → length shelves ≡ length core.faces → All IsNewEnd r.ends.items
        → ((s : ℕ) → SameShelf no_shelf (shelf_at shelves s)) → 0 < setup.backlog
        → Housed work core r shelves
    housed_new r shelves rings count new empty some = record {
      ring_count = rings;
      shelf_count = count;
      servers = λ s l. rw ((new_rings r new s).0, (empty s).handed, (empty s).early, (empty s).results) (new_kept s l);
      announced = λ s l. (empty s).announced ∙ sym (new_kept s l).accepted;
      history = λ none. none (record { setup = setup; steps = [] }) agrees;
      backlog = rw agrees.world.same_backlog some;
    }

range_next : (n : ℕ) → range_with_len 0 (n + 1) ≡ range_with_len 0 n ++ n ∷ []
range_next n = sym (map-id (range_with_len 0 (n + 1))) ∙ (map-range_with_len_more (λ (x : ℕ). x) 0 n n (omega arith)
    ∙ ap (λ xs. xs ++ n ∷ []) (map-id (range_with_len 0 n)))

module _ {X Y Z : Type 0} where
  -- one more of each of two lists
  pub map_pushed : (f : X → Z) (h : Y → Z) (xs xs' : List X) (ys ys' : List Y) (x : X) (y : Y) → xs' ≡ xs ++ x ∷ [] → ys' ≡ ys ++ y ∷ [] → f x ≡ h y
      → map f xs ≡ map h ys → map f xs' ≡ map h ys'
  map_pushed f h xs xs' ys ys' x y a b e k =
      ap (map f) a ∙ (map-append f xs (x ∷ []) ∙ (ap (λ zs. zs ++ f x ∷ []) k
      ∙ (ap (λ z. map h ys ++ z ∷ []) e ∙ (sym (map-append h ys (y ∷ [])) ∙ ap (map h) (sym b)))))

pub numbered_pushed : {X : Type 0} (f : X → ℕ) (xs xs' : List X) (x : X) (n : ℕ) → xs' ≡ xs ++ x ∷ [] → f x ≡ n → map f xs ≡ range_with_len 0 n
    → map f xs' ≡ range_with_len 0 (n + 1)
numbered_pushed f xs xs' x n a e k =
    ap (map f) a ∙ (map-append f xs (x ∷ []) ∙ (ap (λ zs. zs ++ f x ∷ []) k ∙ (ap (λ z. range_with_len 0 n ++ z ∷ []) e ∙ sym (range_next n))))

pub same_count : {X Y : Type 0} (f : X → Y) (h : X → ℕ) (zs : List Y) (xs : List X) (n : ℕ) → zs ≡ map f xs → map h xs ≡ range_with_len 0 n → length zs ≡ n
same_count f h zs xs n a b = ap length a ∙ (length-map xs f ∙ (sym (length-map xs h) ∙ (ap length b ∙ length-range_with_len 0 n)))

module _ {W A : Type 0} {g : Ghosts W} where
  pub all_opened : (rings : List (Ring A)) (cs : List (Client W A g)) (n : ℕ) → rings ≡ map ring_of cs → map server_of cs ≡ range_with_len 0 n
      → All (IsOpened rings) cs
  all_opened rings cs n a b k d l =
      let count : length cs ≡ n = sym (length-map cs (server_of {W = W})) ∙ (ap length b ∙ length-range_with_len 0 n) in
      let c = get_or cs k d in
      let here : server_of c ≡ k =
      sym (at_map server_of cs k d 0 l) ∙ (ap (λ xs. get_or xs k 0) b ∙ (get_or-range_with_len 0 n k 0 (omega (arith, count, l)) ∙ zero-add k)) in
      let ring : slice_get (map ring_of cs) k ≡ Some (ring_of c) =
      slice_get-get_or (map ring_of cs) k (ring_of c) (omega (arith, length-map cs (ring_of {W = W}), l))
      ∙ ap (λ r. Some r) (at_map ring_of cs k d (ring_of c) l) in
      ap (λ (x : ℕ). slice_get rings x) here ∙ (ap (λ rs. slice_get rs k) a ∙ ring)

  -- two ways to say that each client was opened
  one_of_all : (P : Client W A g → Type 0) (front back : List (Client W A g)) (c : Client W A g) → All P (front ++ c ∷ back) → P c
  one_of_all P [] back c h = All-head P c back h
  one_of_all P (x ∷ front) back c h = one_of_all P front back c (All-tail P x (front ++ c ∷ back) h)

  -- clients that were opened with a house, wherever they stand
  pub each_opened : (rings : List (Ring A)) (cs : List (Client W A g)) → All (IsOpened rings) cs → EachOpened rings cs
  each_opened rings cs h = λ front back c e. one_of_all (IsOpened rings) front back c (subst (λ xs. All (IsOpened rings) xs) e h)

  -- the same of all together
  pub are_opened : (rings : List (Ring A)) (cs : List (Client W A g)) → All (IsOpened rings) cs → AreOpened rings cs
  are_opened rings [] h = refl
  are_opened rings (c ∷ cs) h = ap₂ ◌∷◌ (All-head (IsOpened rings) c cs h) (are_opened rings cs (All-tail (IsOpened rings) c cs h))
