-- What a log is of until somebody picks it.
use Rattle.std.specs.Prelude.{false, []}
use Rattle.cq_chain.specs.Passes.{BoardCells}

-- no cells
abbrev pub no_cells : BoardCells
no_cells = record {
  table = record { words = 0; slots = 0; views_name = 0; atom = 0; block = 0; offset = 0; slot_names = [] };
  about = record { settings = record { chunk = 0; shards = 0; key_bits = 0; ignore_ids = false; ignore_lits = false; change_limit = 0; text_limit = 0; byte_limit = 0 }; callers = 0; first_only = false };
  shards = 0;
  callers = 0;
}
