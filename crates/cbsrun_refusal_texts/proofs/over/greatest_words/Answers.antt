use Rattle.std.proofs.Common.{◌∙◌}
use Rattle.cbsrun_refusal_texts.proofs.Words.{greatest_is, greatest_none}
use Rattle.cbsrun_refusal_texts.proofs.over.greatest_words.Goals as goal

pub returns-then-budget-eq0 : goal.returns-then-budget-eq0
returns-then-budget-eq0 c = record {
  budget = c.greatest_budget-budget.result;
  greatest = c.greatest_budget-budget.ensures;
  words = c.in_ok-push_str.ensures.bytes
      ∙ rw (c.in_ok-append_time.ensures, c.in_ok-words.ensures.ok) (greatest_none c.args.tick c.args.period c.greatest_budget-budget.result c.if-budget-eq0.true);
}

pub returns : goal.returns
returns c = record {
  budget = c.greatest_budget-budget.result;
  greatest = c.greatest_budget-budget.ensures;
  words = c.in_ok-push_str-3.ensures.bytes
      ∙ rw (c.in_ok-append_time-2.ensures, c.in_ok-push_str-2.ensures.bytes, c.in_ok-append_time.ensures, c.in_ok-words.ensures.ok)
      (greatest_is c.args.tick c.args.period c.greatest_budget-budget.result c.if-budget-eq0.false);
}
