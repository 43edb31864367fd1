-- `of_parts` moves two fields, and what they own goes with them.
use mathlib.Core.Path.{refl, sym, subst}
use mathlib.Core.List.{List, [], ◌∷◌, ◌++◌}
use Rattle.std.specs.Prelude.{Some}
use mir.Val.{Val}
use base.Logic.{ent, emp, id⊢}
use base.Fml.{ftrue, fsep}
use prog.Wp.{WpFn}
use types.Kit.{Item, ‵, raw, ◌⊛◌, ◌$◌, ◌∵◌, !, qed, by, move, drop, use1, join, split, fsplit, fjoin, suffices, done}
use contract.Running.{tables, tables_of}
use denote.Exit.{yes}
use denote.Signature.{type_at}
use denote.Steps.{nothing}
use denote.Triple.Walked.{says, Stays, stay_dropped, walk_of, ends_at, Goes-dropped}
use Rattle.std.proofs.raw_atomic.Walks.{proved_at}
use Rattle.std_alloc.proofs.BoxSteps.Form.{D, B, word}
use Rattle.std_alloc.proofs.BoxSteps.Steps.{box_out, box_in}
use Rattle.cbs_embed.proofs.AsBox.{E, FromParts as From, parts_name, pointer_name}
use Rattle.cbs_embed.proofs.Moves.{hands_on}
use Rattle.cbs_embed.specs.contracts.box_ptr.BoxPtr.of_parts as F
use Rattle.cbs_embed.specs.contracts.box_ptr.BoxPtr.of_parts.Key.{name as #self}
use Rattle.cbs_embed.proofs.box_ptr.BoxPtr.of_parts.Statement.{statement}
use Rattle.cbs_embed.proofs.box_ptr.BoxPtr.of_parts.Code as code

abbrev stayed : Stays (F.ended).signature.params (F.ended).kept
stayed = (stay_dropped From yes, tt)

pub of_parts_spec : {M : Type 1} → statement M
unfolding tables_of
of_parts_spec 𝓤 𝓛 𝓜 𝓡 wired =
    let 𝓣 = tables_of 𝓤 𝓛.H 𝓜 (tables 𝓤 𝓛.H 𝓜 𝓡 𝓡.env) in let c = F.clauses 𝓛 𝓜.mem 𝓡.returns in
    proved_at 𝓛 F.ended stayed c 𝓜 𝓡 (Goes-dropped 𝓛 0 From yes (λ κs x f. refl), tt) #self code.function (code.unfolded 𝓤 𝓛.H 𝓜 𝓡 wired) (λ z are.
    let Post = (walk_of 𝓛 F.ended stayed c).post z in
    let v : D E = record { ptr = z.0.3.0.ptr; alloc = z.0.3.0.alloc; value = z.0.3.0.value } in
    let To = type_at (F.signature).result tt in
    let made : To.Denot = record { ptr = v.ptr; alloc = v.alloc; held = Some v.value } in
    qed 𝓛 ((‵ ftrue ⊛ ‵ (fsep ((B E).own_val v z.0.4.0) ftrue)) ∷ raw (emp 𝓤) ∷ []) ∵ split ! $ drop ! $ fsplit ! $
    box_out E ! v z.0.4.0 (λ b o hv e ws fa. box_in E ! v b o v.value e refl $ move ! (1 ∷ 2 ∷ []) $ drop ! $ drop ! $
    let w = word E hv b o in let Γ : List (Item 𝓤) = ‵ ((B E).own_val v (w ∷ [])) ∷ [] in
    by ! (subst (λ (us : List Val). ent 𝓤 (types.Kit.⋆ 𝓛 Γ) (WpFn 𝓤 𝓛.H 𝓣.C 𝓣.Λ code.function (us ++ []) Post)) (sym ws)
    (hands_on parts_name pointer_name 𝓛 𝓣 Post hv b o fa (qed 𝓛 Γ ∵ use1 𝓛 (‵ (To.own_val made (w ∷ []))) (id⊢ 𝓤 _) $
    suffices ! _ (ends_at 𝓛 F.ended stayed c z w made (tt, tt) (tt, tt)) $ says ! refl $
    nothing ! $ nothing ! $ fjoin ! $ join ! $ nothing ! $ join ! $ done !)))))
