-- No number of a report is a float.
use Rattle.std.proofs.Common.{◌≡◌, ℕ, false, List, [], ◌∷◌, Option, Some, None, refl}
use Rattle.serde_json.specs.Written.{has_float, items_have_float}
use Rattle.cbsrun_simulate.specs.Bounds.{Bounds}
use Rattle.cbsrun_figures.specs.declared.figures.Figures.{Figures}
use Rattle.cbsrun_figures.specs.declared.figures.Ranks.{Ranks}
use Rattle.cbsrun_report_text.specs.declared.report.RunReport.{RunReport}
use Rattle.cbsrun_report_text.specs.declared.report.ServerReport.{ServerReport}
use Rattle.cbsrun_json.specs.Members.{pair_data}
use Rattle.cbsrun_json.proofs.Plain.{pair_plain, whole_if_plain}
use Rattle.cbsrun_report_json.specs.Json.{jobs_data, within_data, units_data, ranks_data, early_data}
use Rattle.cbsrun_report_json.specs.Json.{charges_data, server_terms, with_parts, with_counts, server_data, servers_data}
use Rattle.cbsrun_report_json.specs.Json.{ticks_data, report_terms, with_shares, with_servers, report_data}

-- the jobs of the servers have no fraction
jobs_plain : (servers : List ServerReport) → has_float (jobs_data servers) ≡ false
unfolding jobs_data
jobs_plain servers = refl

-- nor have the wanted numbers of ticks
within_plain : (b : Option Bounds) → has_float (within_data b) ≡ false
unfolding within_data
within_plain None = refl
within_plain (Some b) = refl

-- nor have the units of a server
units_plain : (f : Figures) → has_float (units_data f) ≡ false
unfolding units_data
units_plain f = refl

-- nor have response times by their ranks, or their absence
ranks_plain : (f : Figures) (r : Option Ranks) → has_float (ranks_data f r) ≡ false
unfolding ranks_data pair_data
ranks_plain f None = refl
ranks_plain f (Some r) = refl

-- nor has how much earlier than promised jobs were
early_plain : (f : Figures) (least : Option ℕ) → has_float (early_data f least) ≡ false
unfolding early_data pair_data
early_plain f None = refl
early_plain f (Some least) = refl

-- nor have charges
charges_plain : (f : Figures) → has_float (charges_data f) ≡ false
unfolding charges_data
charges_plain f = refl

-- so the figures of a server have none
server_plain : (s : ServerReport) → has_float (server_data s) ≡ false
unfolding server_data server_terms with_parts with_counts
server_plain s = rw (
  charges_plain s.figures,
  early_plain s.figures s.figures.early_least,
  jobs_plain (s ∷ []),
  ranks_plain s.figures s.figures.responses,
  units_plain s.figures,
  within_plain s.within,
) refl

-- and those of all servers have none
servers_plain : (servers : List ServerReport) → items_have_float (servers_data servers) ≡ false
servers_plain [] = refl
servers_plain (s ∷ servers) = rw (server_plain s) (servers_plain servers)

-- the ticks of a run have no fraction
ticks_plain : (r : RunReport) → has_float (ticks_data r) ≡ false
unfolding ticks_data
ticks_plain r = refl

-- so no number of a report has a fraction
pub report_plain : (r : RunReport) → has_float (report_data r) ≡ false
unfolding report_data report_terms with_servers with_shares
report_plain r = rw (
  pair_plain r.bound.num r.bound.den,
  jobs_plain r.servers.items,
  pair_plain r.reserved.ticks r.reserved.of,
  whole_if_plain r.seed,
  servers_plain r.servers.items,
  whole_if_plain r.tick,
  ticks_plain r,
) refl
