use Rattle.std.proofs.Common.{◌≡◌, ◌++◌, take}
use Rattle.tt_pipeline.proofs.out_data.OutData.append.Given as goal

abbrev pub invariant-loop-byte : goal.invariant-loop-byte
invariant-loop-byte l = l.self-inside.bytes.items ≡ l.fn.self ++ take l.byte-index l.byte-items
