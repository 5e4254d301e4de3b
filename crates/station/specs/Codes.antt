-- The codes of the statuses and of the commands, from the UMB manual. Assumes nothing.
use Rattle.std.specs.Prelude.{◌≡◌, ℕ, true, false, Result, MatchResult}
use Rattle.station.specs.declared.status.Status.{Status}
use Rattle.station.specs.declared.status.Status.TheVariants as S
use Rattle.station.specs.declared.command.Command.{Command}
use Rattle.station.specs.declared.command.Command.TheVariants as C
use Rattle.station.specs.declared.command.UnknownCommand.{UnknownCommand}
use Rattle.station.specs.Model.{known}
use Rattle.station.specs.Replies.{ok, unknown_command, invalid_parameter, invalid_header, invalid_command_version, invalid_value, write_error, invalid_address}

abbrev pub status_code : Status → ℕ
status_code S.Ok = ok
status_code S.UnknownCommand = unknown_command
status_code S.InvalidParameter = invalid_parameter
status_code S.InvalidHeader = invalid_header
status_code S.InvalidCommandVersion = invalid_command_version
status_code S.InvalidValue = invalid_value
status_code S.WriteError = write_error
status_code S.TooLong = 0x22
status_code S.InvalidAddress = invalid_address
status_code S.ChannelOff = 0x36

abbrev pub command_code : Command → ℕ
command_code C.ReadOutEeprom = 0x21
command_code C.ProgramEeprom = 0x22
command_code C.OnlineDataRequest = 0x23
command_code C.Reset = 0x25
command_code C.StatusRequest = 0x26
command_code C.SetTime = 0x27
command_code C.ReadOutTime = 0x28
command_code C.LastErrorMessage = 0x2C
command_code C.MultiChannelOnlineDataRequest = 0x2F

-- the result is the command that has this code, or none has it
abbrev pub Decodes : ℕ → Result Command UnknownCommand → Type 0
Decodes code r = MatchResult r (λ c. (command_code c ≡ code) × (known code ≡ true)) (λ e. known code ≡ false)
