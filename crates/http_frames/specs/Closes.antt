-- When a connection ends after a request (RFC 9112, section 9.6; RFC 9110, sections 5.6.1 and 7.6.1).
use Rattle.std.specs.Prelude.{Bool, ◌||◌, ◌&&◌, ◌==◌, codes}
use Rattle.std.specs.List.{list_any}
use Rattle.side_base.specs.Field.{is_same_word, has_item}
use Rattle.side_base.specs.declared.message.Field.{Field}
use Rattle.side_base.specs.declared.message.Request.{Request}

-- a field `Connection` with the option `close`
abbrev pub is_close : Field → Bool
is_close field = is_same_word field.name (codes "connection") && has_item field.value (codes "close")

-- the connection ends after this request: it is of version 1.0, or has the connection option `close`
unfoldable pub closes_after : Request → Bool
closes_after request = request.minor == 0 || list_any is_close request.fields
