-- The settings of a connector where nobody sets them.
use Rattle.std.specs.Prelude.{ℕ, pos}
use Rattle.cy_event.specs.declared.limits.Limits.{Limits}

-- the defaults, for so many components
abbrev pub standard : ℕ → Limits
standard parts = record {
  max_connections = 256;
  max_head = 8192;
  max_fields = 100;
  max_keep_alive = pos 100;
  connection_timeout = 20000;
  async_timeout = 30000;
  max_swallow = 2097152;
  max_trailer = 8192;
  parts = parts;
}
