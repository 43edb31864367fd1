-- `as_mut` lends what is in the box, and the pointer follows it.
use Rattle.std.proofs.Common.{◌≡◌, ℕ, List, [], ◌∷◌, refl, sym, true≢false}
use Rattle.std.specs.Prelude.{Option, Some, None}
use Rattle.std.specs.Option.{IsSome}
use Rattle.std.specs.Global.{Global}
use seplogic.Ra.Ura.{Ura}
use base.Fraction.{full_share}
use mir.Raw.{raw as bare}
use mir.Syntax.{named}
use mir.Val.{Val, vptr}
use base.Logic.{SProp, ent, sep, id⊢}
use base.Fml.{Lft, GName, Share, Fml, ftrue, flft, fsep}
use prog.Memory.{Memory}
use prog.Routine.{Routine}
use prog.Wp.{WpFn, Tables}
use types.Logic.{Logic, sem}
use types.Kit.{‵, ◌⊛◌, some, at_ret, ◌$◌, ◌∵◌, !, qed, move, keep, use1, drop, split, split3, join, pick, fsplit, fsplit3, fjoin, suffices, frame, done, raw, later, await, group, fpack, rewrite}
use types.Part.{whole, sub, look_in}
use types.Run.{stop, fld, load, of_opd, first, blocks, exec, returns, enter, addr}
use types.ByLocal.{alloc_all, pass_all, free_all, look_at, get, through, sets, env, sets_last}
use contract.Monad.{Fun, fact}
use contract.Running.{tables, tables_of}
use denote.Exit.{no}
use denote.Follow.{follows, Part, lends_Part}
use denote.Memory.{part_at, mem, cell_at, part_of}
use denote.RattleType.{owns}
use denote.RawPtr.{Ptr, block_ptr}
use denote.Ref.{MutRef, mut_vals, mut_Tells}
use denote.Signature.{plain, mut_ref_to}
use denote.Steps.{heard, nothing, opens}
use denote.Triple.Entry.{on_entry}
use denote.Triple.Walked.{says, Stays, stay_dropped, walk_of, ends_at, Goes-spent_ref}
use Rattle.core.proofs.alloc.Calls.{token}
use Rattle.std.proofs.raw_atomic.Walks.{proved}
use Rattle.std_alloc.proofs.BoxSteps.Form.{D, B, τ, word, handle}
use Rattle.std_alloc.proofs.BoxSteps.Steps.{box_out, box_in}
use Rattle.cbs_embed.proofs.AsBox.{E}
use Rattle.cbs_embed.specs.Lending.{with_held}
use Rattle.cbs_embed.specs.contracts.box_ptr.BoxPtr as Pointer
use Rattle.cbs_embed.specs.contracts.held.Held as Held
use Rattle.cbs_embed.specs.declared.box_ptr.BoxPtr.{BoxPtr}
use Rattle.cbs_embed.specs.contracts.box_ptr.BoxPtr.as_mut.{ended, clauses}
use Rattle.cbs_embed.specs.contracts.box_ptr.BoxPtr.as_mut.Key.{name as #self}
use Rattle.cbs_embed.proofs.box_ptr.BoxPtr.as_mut.Statement.{statement}
use Rattle.cbs_embed.proofs.box_ptr.BoxPtr.as_mut.Code as code

abbrev X : Type 0
X = (Held.the_row).Denot

abbrev stayed : Stays ended.signature.params ended.kept
stayed = (stay_dropped (mut_ref_to (0 ∷ []) tt (plain (λ _. Pointer.the_row))) no, tt)

module _ {M : Type 1} {𝓤 : Ura M} (𝓛 : Logic 𝓤) (p : Ptr) (a : Global) (x : X) (rb ro b o : ℕ) (hv : Val) where
  -- what lends: the pointer that owns a box with this in it
  abbrev lender : X → BoxPtr
  lender y = record { ptr = p; alloc = a; held = Some y }

  -- all of the pointer but what is in the box
  abbrev Rest : Fml
  Rest = fsep (fsep (token (E.al) a (bare (τ E)) (block_ptr b o)) (handle E a hv)) (cell_at full_share (Pointer.the_row).mir (word E hv b o ∷ []) rb ro)

  -- with anything in the box, it is the pointer of that
  back : p ≡ block_ptr b o → (y : X) → ent 𝓤 (sep 𝓤 (sem 𝓛 ((mem Held.the_row).own_at y b o)) (sem 𝓛 Rest)) (sem 𝓛 ((mem Pointer.the_row).own_at (lender y) rb ro))
  unfolding part_of
  back at_b y =
      let v : D E = record { ptr = p; alloc = a; value = y } in
      qed 𝓛 (‵ (part_at Held.the_row full_share y b o) ∷ ‵ Rest ∷ []) ∵ move ! (1 ∷ []) $ fsplit ! $ fsplit ! $ move ! (3 ∷ []) $
      box_in E ! v b o y at_b refl $ use1 𝓛 (‵ ((Pointer.the_row).own_val (lender y) (word E hv b o ∷ []))) (id⊢ 𝓤 _) $ move ! (1 ∷ 0 ∷ []) $ fjoin ! $
      fpack ! (List Val) (λ us. fsep (cell_at full_share (Pointer.the_row).mir us rb ro) ((Pointer.the_row).own_val (lender y) us)) (word E hv b o ∷ []) $ done !

module _ {M : Type 1} {𝓤 : Ura M} (𝓛 : Logic 𝓤) (at_mem : Memory → SProp 𝓤) (run : Routine → Fun 𝓤) (𝓣 : Tables 𝓤 𝓛.H) where
  open 𝓛 use {H}

  abbrev At : Lft → Share → ℕ → ℕ → GName → Ptr → Global → Option X → (walk_of 𝓛 ended stayed (clauses 𝓛 at_mem run)).Ghost
  At κ q rb ro γ p a h = (((κ, tt), (q, tt), tt, (record { ref_ptr = (rb, ro); ghost_name = γ; now = record { ptr = p; alloc = a; held = h } }, tt), (vptr rb ro ∷ [], tt)), tt)

  walk : (κ : Lft) (q : Share) (rb ro : ℕ) (γ : GName) (p : Ptr) (a : Global) (h : Option X)
      → ent 𝓤 (sep 𝓤 (on_entry 𝓛 ended.signature (κ, tt) (q, tt) (At κ q rb ro γ p a h).0.3 (vptr rb ro ∷ [], tt)) (fact 𝓤 (IsSome h)))
      (WpFn 𝓤 H 𝓣.C 𝓣.Λ code.function (vptr rb ro ∷ []) ((walk_of 𝓛 ended stayed (clauses 𝓛 at_mem run)).post (At κ q rb ro γ p a h)))
  walk κ q rb ro γ p a None =
      let none : Option X = None in
      qed 𝓛 (raw (on_entry 𝓛 ended.signature (κ, tt) (q, tt) (At κ q rb ro γ p a None).0.3 (vptr rb ro ∷ [], tt)) ∷ raw (fact 𝓤 (IsSome none)) ∷ []) ∵
      drop ! $ heard ! _ (λ some. absurd (true≢false (sym some)))
  walk κ q rb ro γ p a (Some x) =
      let z = At κ q rb ro γ p a (Some x) in let Post = (walk_of 𝓛 ended stayed (clauses 𝓛 at_mem run)).post z in
      let v : D E = record { ptr = p; alloc = a; value = x } in let d = lender 𝓛 p a x rb ro 0 0 (vptr rb ro) x in
      qed 𝓛 (((‵ (flft κ q) ⊛ ‵ ftrue) ⊛ ‵ (owns (MutRef (named 0) κ Pointer.the_row ∷ []) z.0.3 (vptr rb ro ∷ [], tt))) ∷ raw (fact 𝓤 _) ∷ []) ∵
      move ! (1 ∷ []) $ drop ! $ split ! $
      enter ! 𝓣.C 𝓣.Λ code.function (vptr rb ro ∷ []) _ $
      alloc_all ! (λ l. pass_all ! refl ((tt, tt), tt) $
      move ! (1 ∷ []) $ fsplit ! $ fsplit3 ! $ drop ! $ move ! (3 ∷ []) $ split ! $ move ! (2 ∷ 3 ∷ 0 ∷ []) $
      -- [the value of the borrow; the borrow; the token of κ]
      opens ! tt Pointer.the_row {h = d} rb ro (λ vs. move ! (1 ∷ []) $ use1 𝓛 (‵ ((B E).own_val v vs)) (id⊢ 𝓤 _) $ box_out E ! v vs (λ b o hv at_b ws fa.
      move ! (1 ∷ 2 ∷ []) $ fjoin ! $ move ! (1 ∷ []) $ rewrite ! 2 (λ (us : List Val). ‵ (cell_at full_share (Pointer.the_row).mir us rb ro)) ws refl $
      -- [what is in the box; the right to free it, with the handle; the pointer; the open borrow; its value, twice]
      first ! $ blocks ! $
      sets ! (of_opd ! (load ! (through ! refl (fld ! refl (stop !))) (look_in ! 2 (sub ! 0 refl (whole !))))) refl (tt, tt) $
      sets ! (of_opd ! (get ! refl)) refl (tt, tt) $
      sets_last ! (addr ! (through ! refl (stop !))) refl (tt, tt) $
      exec ! 𝓣.C 𝓣.Λ (env code.Mir.locals l) code.Mir.t-2 (at_ret _ Post) $
      sets ! (of_opd ! (get ! refl)) refl (tt, tt) $
      move ! (1 ∷ 2 ∷ []) $ fjoin ! $ move ! (2 ∷ 3 ∷ 4 ∷ 1 ∷ 0 ∷ []) $ group ! 5 $
      let F = with_held d in let code = (Pointer.the_row).coded.code d in let ends = back 𝓛 p a x rb ro b o hv at_b in let rest = sem 𝓛 (Rest 𝓛 p a x rb ro b o hv) in
      use1 𝓛 (later (some (λ (γ' : GName). raw (Part 𝓛 Pointer.the_row Held.the_row F (named 0) κ q rb ro b o γ rest ends x γ'))))
      (lends_Part 𝓛 Pointer.the_row Held.the_row F (named 0) κ q rb ro b o γ rest ends code code x) $ await ! tt $ pick ! (λ γ'.
      returns ! (look_at ! 0 refl) $ free_all ! refl $ keep ! (0 ∷ []) $
      use1 𝓛 (‵ ((MutRef (named 0) κ Held.the_row).own_val (record { ref_ptr = (b, o); ghost_name = γ'; now = x }) (vptr b o ∷ [])) ⊛ ‵ (flft κ q)
      ⊛ ‵ (follows Pointer.the_row Held.the_row γ γ' F)) (id⊢ 𝓤 _) $ split3 ! $
      suffices ! _ (ends_at 𝓛 ended stayed (clauses 𝓛 at_mem run) z (vptr b o) (record { ref_ptr = (b, o); ghost_name = γ'; now = x }) (tt, tt) (tt, tt)) $
      nothing ! $ nothing ! $ fjoin ! $ join ! $ nothing ! $ move ! (2 ∷ 0 ∷ []) $ join ! $ join ! $ frame ! $ says ! refl $ done !))))

pub as_mut_spec : {M : Type 1} → statement M
unfolding tables_of
as_mut_spec 𝓤 𝓛 𝓜 𝓡 wired =
    let 𝓣 = tables 𝓤 𝓛.H 𝓜 𝓡 𝓡.env in let c = clauses 𝓛 𝓜.mem 𝓡.returns in
    proved 𝓛 ended stayed c 𝓜 𝓡 (Goes-spent_ref 𝓛 1 (0 ∷ []) tt (plain (λ _. Pointer.the_row)), tt)
    #self code.function (code.unfolded 𝓤 𝓛.H 𝓜 𝓡 wired)
    (λ κs. (mut_vals, tt)) (λ κs. (mut_Tells (named 0) κs.0 Pointer.the_row, tt)) (λ κs qs bounds args g are.
    let r = args.0 in walk 𝓛 𝓜.mem 𝓡.returns (tables_of 𝓤 𝓛.H 𝓜 𝓣) κs.0 qs.0 r.ref_ptr.0 r.ref_ptr.1 r.ghost_name r.now.ptr r.now.alloc r.now.held)
