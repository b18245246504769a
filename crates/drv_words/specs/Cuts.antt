-- How a transfer is cut into qTDs (EHCI 1.0, 4.10; USB 2.0, 8.5.3).
--     stages_of c     the qTDs, in their order
--     IsCut c         it has at most 20,480 bytes, and qTDs of at least one byte
use Rattle.std.specs.Prelude.{◌≤◌, List}
use Rattle.usb_base.specs.Limits.{longest_qtd}
use Rattle.drv_table.specs.declared.content.Stage.{Stage}
use Rattle.drv_table.specs.Words.{get_stages, put_stages, request_stages, request_length}
use Rattle.drv_words.specs.declared.cuts.Cut.{Cut}
use Rattle.drv_words.specs.declared.cuts.Cut.TheVariants as cuts

abbrev pub stages_of : Cut → List Stage
stages_of (cuts.Get len by) = get_stages len by
stages_of (cuts.Put len by) = put_stages len by
stages_of (cuts.Request setup) = request_stages setup

abbrev pub IsCut : Cut → Type 0
IsCut (cuts.Get len by) = (len ≤ longest_qtd) × (1 ≤ by) × (by ≤ longest_qtd)
IsCut (cuts.Put len by) = (len ≤ longest_qtd) × (1 ≤ by) × (by ≤ longest_qtd)
IsCut (cuts.Request setup) = request_length setup ≤ longest_qtd
