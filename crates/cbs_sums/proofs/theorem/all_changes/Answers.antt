use Rattle.cbs_sums.proofs.Changes.{changed}
use Rattle.cbs_sums.proofs.theorem.all_changes.Goals as goal

pub returns : goal.returns
returns c register front byte other back small small_byte small_other differ same =
    differ (changed register front byte other back small small_byte small_other same)
