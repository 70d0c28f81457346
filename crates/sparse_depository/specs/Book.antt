-- What a sparse depository means: the accounts that its entries say.
use Rattle.std.specs.Prelude.{List, take}
use Rattle.depository.specs.declared.account.Account.{Account}
use Rattle.sparse_depository.specs.declared.sparse.SparseDepository.{SparseDepository}
use Rattle.sparse_depository.specs.Entries.{accounts_of}

abbrev pub accounts_in : SparseDepository → List Account
accounts_in s = accounts_of (take s.count s.entries)
