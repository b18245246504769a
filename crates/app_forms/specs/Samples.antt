-- Counts of faults for worked rows: none rose, and that of the sink did.
use Rattle.app_forms.specs.Finished.{Faults}

abbrev pub calm : Faults
calm = record { read_before = 0; read_after = 0; written_before = 0; written_after = 0 }

abbrev pub failing : Faults
failing = record { read_before = 0; read_after = 0; written_before = 0; written_after = 1 }
