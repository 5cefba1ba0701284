pub mod GeodeticFix
