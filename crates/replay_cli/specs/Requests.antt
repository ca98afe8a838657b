-- A request as its parts say.
use Rattle.std.specs.String.{string_bytes}
use Rattle.replay_cli.specs.Words.{Request as Asked}
use Rattle.replay_cli.specs.declared.request.Request.{Request}

-- what a request asks for, with the bytes of the names
abbrev pub request_of : Request → Asked
request_of r = record { image = string_bytes r.image; journal = string_bytes r.journal; settings = r.settings; memory = r.memory; mode = r.mode }
