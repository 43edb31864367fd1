use Rattle.std.proofs.Common.{◌≡◌, ℕ, List, [], ◌++◌, length}
use Rattle.std.specs.Prelude.{codes, map, max}
use Rattle.std.specs.List.{concat}
use Rattle.std.proofs.lemmas.List.{append_assoc, append-nil}
use Rattle.cbsrun_refusal_texts.specs.Pages.{times, bar, marked_line}
use Rattle.cbsrun_refusal_texts.proofs.Pages.{then, as_text}
use Rattle.cbsrun_refusal_texts.proofs.page.Page.push_line.Goals as goal

line_is : (gutter line : List ℕ) (from count : ℕ)
    → bar (length gutter) ++ ((gutter ++ (codes "| " ++ [])) ++ (line ++ (codes "\n" ++ (times (length gutter) (codes " ") ++ (codes "| " ++ (times from (codes " ") ++ times (max count 1) (codes "^")))))))
    ≡ marked_line gutter line from count
unfolding marked_line
line_is gutter line from count =
    by (times (length gutter) (codes " ")) gutter line (times from (codes " ")) (times (max count 1) (codes "^"))
  where
    by : (m g l f t : List ℕ) → (m ++ codes "|\n") ++ ((g ++ (codes "| " ++ [])) ++ (l ++ (codes "\n" ++ (m ++ (codes "| " ++ (f ++ t))))))
        ≡ (m ++ codes "|\n") ++ g ++ codes "| " ++ l ++ codes "\n" ++ m ++ codes "| " ++ f ++ t
    by m g l f t = simp (append_assoc, append-nil)

pub returns : goal.returns
returns c =
    let end = c.push_times-3.new.self in
    as_text c.args.self.now end _ _
    (then c.args.self.now c.push_bar.new.self end _ _ c.push_bar.ensures
    (then c.push_bar.new.self c.push_all.new.self end _ _ c.push_all.ensures
    (then c.push_all.new.self c.push_all-2.new.self end _ _ c.push_all-2.ensures
    (then c.push_all-2.new.self c.push.new.self end _ _ c.push.ensures
    (then c.push.new.self c.push_times.new.self end _ _ c.push_times.ensures
    (then c.push_times.new.self c.push-2.new.self end _ _ c.push-2.ensures
    (then c.push-2.new.self c.push_times-2.new.self end _ _ c.push_times-2.ensures c.push_times-3.ensures)))))))
    (rw (c.max.ensures) (line_is c.args.gutter.now (concat (map (λ part. part.now) c.args.line.now)) c.args.from c.args.count))
