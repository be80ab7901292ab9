-- The tables are Colussi's (`tables_right`): each entry is what its facts say.
-- The laws of each table, put together.
use Rattle.tables.proofs.FirstShift.{Δ1_facts}
use Rattle.tables.proofs.HMin.{h_min_facts}
use Rattle.tables.proofs.KMin.{k_min_cases}
use Rattle.tables.proofs.LaterShift.{Δ2_facts}
use Rattle.tables.proofs.Order.{order_whole, by_rising_k_min}
use Rattle.tables.proofs.Periods.{period_facts}
use Rattle.tables.proofs.RMin.{r_min_facts}
use Rattle.tables.proofs.RepeatShift.{Δ3_facts}
use Rattle.tables.specs.Promises.{OrderWhole, TablesRight}

pub tables_right : TablesRight
unfolding TablesRight OrderWhole
tables_right w some = record {
  h_min_right = h_min_facts w;
  k_min_right = k_min_cases w;
  r_min_right = r_min_facts w;
  period_right = period_facts w some;
  order_permutes = order_whole w some;
  order_rises = by_rising_k_min w some;
  Δ1_right = Δ1_facts w;
  Δ2_right = Δ2_facts w some;
  Δ3_right = Δ3_facts w;
}
