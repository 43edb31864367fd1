use Rattle.cbs_tape.proofs.Written.{tells_one}
use Rattle.cbs_tape.proofs.tape.put_after.Goals as goal

pub returns-clause-tells : goal.returns-clause-tells
returns-clause-tells g c = tells_one c.args.bytes.now.items c.put_entry.new.bytes.items c.args.e c.requires.entries c.requires.spelled c.put_entry.ensures.items
