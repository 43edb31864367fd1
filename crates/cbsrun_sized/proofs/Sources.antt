-- The sources of a load and of a sketch.
use Rattle.std.proofs.Common.{None}
use Rattle.cbsrun_simulate.specs.declared.terms.SourceTerms.{SourceTerms}

-- what stands for a source that does not exist
abbrev pub no_source : SourceTerms
no_source = record {
  server = 0;
  first = 0;
  every = record { least = 0; greatest = 0 };
  jitter = 0;
  units = record { least = 0; greatest = 0 };
  jobs = None;
  within = None;
  overrun = record { least = 0; greatest = 0 };
}
