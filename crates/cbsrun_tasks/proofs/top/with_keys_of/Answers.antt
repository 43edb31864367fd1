use Rattle.cbsrun_tasks.proofs.top.with_keys_of.Goals as goal

pub returns-in-One : goal.returns-in-One
returns-in-One c = rw c.in-One.is c.with_keys.ensures

pub returns-in-Two : goal.returns-in-Two
returns-in-Two c = rw c.in-Two.is c.with_keys-in-Two.ensures
