-- The qTD of a SETUP that is worked out.
use Rattle.std.proofs.Common.{◌≡◌, ℕ, suc, ◌<◌, ◌+◌, inl, refl, arith}
use Rattle.mem_bytes.specs.Bytes.{place}
use Rattle.drv_table.specs.declared.content.Sort.TheVariants as sorts
use Rattle.drv_table.specs.Harvests.{buffer_address}
use Rattle.law_structures.specs.lent_structures.Sound.{element_pages}
use Rattle.law_driver_ring.specs.fed_queues.Fed.{IsPieceFed, sized}
use Rattle.law_driver_ring.specs.fed_queues.Worked.{setup_noted, setup_written, setup_part}

its_places : (j : ℕ) → j < 8 → buffer_address setup_noted j ≡ place (element_pages setup_written) (setup_written.offset + j)
its_places (suc (suc (suc (suc (suc (suc (suc (suc j)))))))) below = absurd (omega (arith, below))
its_places _ below = refl

pub setup_row : IsPieceFed sorts.Request setup_part (sized sorts.Request 0 setup_noted) 141 143
setup_row = record {
  qtd = setup_written;
  here = refl;
  noted = record { next = refl; alternate = inl refl; offset = refl; page0 = refl; page1 = refl; page2 = refl; page3 = refl; page4 = refl };
  buffer = λ some. record { bytes = _; here = refl; size = refl };
  long = refl;
  places = its_places;
  fresh = λ active. refl;
  blank = λ none. absurd (omega (arith, none));
}
