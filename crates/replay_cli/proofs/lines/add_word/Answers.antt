use Rattle.std.proofs.Common.{codes, ◌++◌, ◌/◌, ◌%◌}
use Rattle.posix_model.specs.Lines.{hex_byte}
use Rattle.replay_cli.specs.Places.{hex_word}
use Rattle.replay_cli.proofs.PlaceLines.{joined}
use Rattle.replay_cli.proofs.lines.add_word.Goals as goal

pub returns-clause-text : goal.returns-clause-text
unfolding hex_word
returns-clause-text c =
    let n = c.args.n in
    joined c.args.line.now (codes " 0x") (hex_byte (n / 16777216) ++ hex_byte (n / 65536 % 256) ++ hex_byte (n / 256 % 256) ++ hex_byte (n % 256)) c.text.new.self _ c.text.ensures
    (joined c.text.new.self (hex_byte (n / 16777216)) (hex_byte (n / 65536 % 256) ++ hex_byte (n / 256 % 256) ++ hex_byte (n % 256)) c.hex.new.self _ c.hex.ensures.text
    (joined c.hex.new.self (hex_byte (n / 65536 % 256)) (hex_byte (n / 256 % 256) ++ hex_byte (n % 256)) c.hex-2.new.self _ c.hex-2.ensures.text
    (joined c.hex-2.new.self (hex_byte (n / 256 % 256)) (hex_byte (n % 256)) c.hex-3.new.self _ c.hex-3.ensures.text c.hex-4.ensures.text)))
