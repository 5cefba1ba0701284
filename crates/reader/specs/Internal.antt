pub mod NodesRead
