-- `into_parts` moves two fields, and what they own goes with them.
use mathlib.Core.Path.{refl, sym, subst}
use mathlib.Core.List.{List, [], ◌∷◌, ◌++◌}
use Rattle.std.specs.Prelude.{Option, Some, None}
use Rattle.std.specs.Option.{IsSome}
use Rattle.std.specs.Global.{Global}
use Rattle.std.proofs.Common.{true≢false}
use denote.RawPtr.{Ptr}
use seplogic.Ra.Ura.{Ura}
use mir.Val.{Val}
use base.Logic.{SProp, ent, id⊢}
use base.Fml.{ftrue, fsep}
use prog.Memory.{Memory}
use prog.Routine.{Routine}
use prog.Wp.{WpFn, Tables}
use types.Logic.{Logic}
use types.Kit.{Item, ‵, raw, ◌⊛◌, ◌$◌, ◌∵◌, !, qed, by, move, drop, use1, join, split, fsplit, fjoin, suffices, done}
use contract.Monad.{Fun, fact}
use contract.Running.{tables, tables_of}
use denote.Exit.{yes}
use denote.Signature.{type_at}
use denote.Steps.{heard, nothing}
use denote.Triple.Walked.{says, Stays, stay_dropped, walk_of, ends_at, Goes-dropped}
use Rattle.std.proofs.raw_atomic.Walks.{proved_at}
use Rattle.std_alloc.proofs.BoxSteps.Form.{D, B, word}
use Rattle.std_alloc.proofs.BoxSteps.Steps.{box_out, box_in}
use Rattle.cbs_embed.proofs.AsBox.{E, FromPointer as From, parts_name, pointer_name}
use Rattle.cbs_embed.proofs.Moves.{hands_on}
use Rattle.cbs_embed.specs.contracts.held.Held as Held
use Rattle.cbs_embed.specs.contracts.box_ptr.BoxPtr as Pointer
use Rattle.cbs_embed.specs.contracts.box_ptr.BoxPtr.into_parts as F
use Rattle.cbs_embed.specs.contracts.box_ptr.BoxPtr.into_parts.Key.{name as #self}
use Rattle.cbs_embed.proofs.box_ptr.BoxPtr.into_parts.Statement.{statement}
use Rattle.cbs_embed.proofs.box_ptr.BoxPtr.into_parts.Code as code

abbrev stayed : Stays (F.ended).signature.params (F.ended).kept
stayed = (stay_dropped From yes, tt)

module _ {M : Type 1} {𝓤 : Ura M} (𝓛 : Logic 𝓤) (at_mem : Memory → SProp 𝓤) (run : Routine → Fun 𝓤) (𝓣 : Tables 𝓤 𝓛.H) where
  open 𝓛 use {H}

  abbrev At : Ptr → Global → Option (Held.the_row).Denot → List Val → (walk_of 𝓛 F.ended stayed (F.clauses 𝓛 at_mem run)).Ghost
  At p a h vs = ((tt, tt, tt, (record { ptr = p; alloc = a; held = h }, tt), (vs, tt)), tt)

  walk : (p : Ptr) (a : Global) (h : Option (Held.the_row).Denot) (vs : List Val)
      → ent 𝓤 ((walk_of 𝓛 F.ended stayed (F.clauses 𝓛 at_mem run)).pre (At p a h vs))
      (WpFn 𝓤 H 𝓣.C 𝓣.Λ code.function (vs ++ []) ((walk_of 𝓛 F.ended stayed (F.clauses 𝓛 at_mem run)).post (At p a h vs)))
  walk p a None vs =
      let none : Option (Held.the_row).Denot = None in
      qed 𝓛 ((‵ ftrue ⊛ ‵ (fsep ((Pointer.the_row).own_val (record { ptr = p; alloc = a; held = None }) vs) ftrue))
      ∷ raw (fact 𝓤 (IsSome none)) ∷ []) ∵ drop ! $ heard ! _ (λ some. absurd (true≢false (sym some)))
  walk p a (Some x) vs =
      let z = At p a (Some x) vs in let Post = (walk_of 𝓛 F.ended stayed (F.clauses 𝓛 at_mem run)).post z in
      let v : D E = record { ptr = p; alloc = a; value = x } in
      let To = type_at (F.signature).result tt in
      let made : To.Denot = record { ptr = p; alloc = a; value = x } in
      qed 𝓛 ((‵ ftrue ⊛ ‵ (fsep ((B E).own_val v vs) ftrue)) ∷ raw (fact 𝓤 _) ∷ []) ∵ split ! $ drop ! $ fsplit ! $
      box_out E ! v vs (λ b o hv e ws fa. box_in E ! v b o v.value e refl $ move ! (1 ∷ 2 ∷ []) $ drop ! $ drop ! $
      let w = word E hv b o in let Γ : List (Item 𝓤) = ‵ ((B E).own_val v (w ∷ [])) ∷ [] in
      by ! (subst (λ (us : List Val). ent 𝓤 (types.Kit.⋆ 𝓛 Γ) (WpFn 𝓤 H 𝓣.C 𝓣.Λ code.function (us ++ []) Post)) (sym ws)
      (hands_on pointer_name parts_name 𝓛 𝓣 Post hv b o fa (qed 𝓛 Γ ∵ use1 𝓛 (‵ (To.own_val made (w ∷ []))) (id⊢ 𝓤 _) $
      suffices ! _ (ends_at 𝓛 F.ended stayed (F.clauses 𝓛 at_mem run) z w made (tt, tt) (tt, tt)) $ says ! refl $
      nothing ! $ nothing ! $ fjoin ! $ join ! $ nothing ! $ join ! $ done !))))

pub into_parts_spec : {M : Type 1} → statement M
unfolding tables_of
into_parts_spec 𝓤 𝓛 𝓜 𝓡 wired =
    let c = F.clauses 𝓛 𝓜.mem 𝓡.returns in
    proved_at 𝓛 F.ended stayed c 𝓜 𝓡 (Goes-dropped 𝓛 0 From yes (λ κs x f. refl), tt) #self code.function (code.unfolded 𝓤 𝓛.H 𝓜 𝓡 wired)
    (λ z are. walk 𝓛 𝓜.mem 𝓡.returns (tables_of 𝓤 𝓛.H 𝓜 (tables 𝓤 𝓛.H 𝓜 𝓡 𝓡.env)) z.0.3.0.ptr z.0.3.0.alloc z.0.3.0.held z.0.4.0)
