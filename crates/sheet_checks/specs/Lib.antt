-- What the contracts of calls on a sheet cite.
pub mod SheetChecks
