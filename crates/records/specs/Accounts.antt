-- What an account holds.
use Rattle.std.specs.Prelude.{ℕ, ℤ, pos}
use Rattle.std.specs.Option.{unwrap_or}
use Rattle.records.specs.Registers.{numbered}
use Rattle.records.specs.declared.account.Account.{Account}

-- the lots that an account is long (above nought) or short (below) in a contract
abbrev pub holding : Account → ℕ → ℤ
holding a contract = unwrap_or (numbered a.positions contract) (pos 0)
